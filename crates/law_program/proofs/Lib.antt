-- for other crates:
pub mod OneDrill
-- of this crate:
pub mod VerifiedPacks
pub mod AnnotationCauses
pub mod Causes
pub mod CertificateCauses
pub mod DenialCauses
pub mod JudgedDenials
pub mod Faults
pub mod OneAnnotation
pub mod OneCheck
pub mod OneDenial
pub mod OneDtd
pub mod OnePack
pub mod OneResponse
pub mod OneVerdict
pub mod OneVerification
pub mod Refusals
pub mod ResponseCauses
pub mod AnswersWithinLimits
