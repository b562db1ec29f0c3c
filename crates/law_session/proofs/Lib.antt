-- of this crate:
pub mod SimpleDtds
