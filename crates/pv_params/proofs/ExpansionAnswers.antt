-- What a file expands to is what is answered.
use Rattle.std.proofs.Common.{inl, inr, ℕ, List, Result, Ok, Err, Vec, Global, refl, subst}
use Rattle.std.specs.Prelude.{IfOk, IfErr}
use Rattle.pv_params.specs.Meaning.{conditional, external, undeclared, recursive, limit, syntax, Expansion, expanded, faulty, Expands}
use Rattle.pv_params.specs.Answers.{Tells, Answers}
use Rattle.pv_params.specs.declared.errors.ParamError.{ParamError}
use Rattle.pv_params.specs.declared.errors.ParamError.TheVariants.{Conditional, External, Undeclared, Recursive, Limit, Syntax, NoMemory}
use Rattle.pv_params.proofs.OneExpansion.{one_expansion}

no_memory_answers : (e : Expansion) → Answers e (Err NoMemory)
no_memory_answers (expanded text) = refl
no_memory_answers (faulty fault) = inr refl

pub exactly : (bytes : List ℕ) (r : Result (Vec ℕ Global) ParamError) →
    IfOk r (λ text. Expands bytes (expanded text.items)) →
    IfErr r (Tells (λ fault. Expands bytes (faulty fault))) → (e : Expansion) → Expands bytes e → Answers e r
exactly bytes (Ok found) read refused e is = subst (λ x. Answers x (Ok found)) (one_expansion bytes (expanded found.items) e read is) refl
exactly bytes (Err Conditional) read refused e is = subst (λ x. Answers x (Err Conditional)) (one_expansion bytes (faulty conditional) e refused is) (inl refl)
exactly bytes (Err External) read refused e is = subst (λ x. Answers x (Err External)) (one_expansion bytes (faulty external) e refused is) (inl refl)
exactly bytes (Err Undeclared) read refused e is = subst (λ x. Answers x (Err Undeclared)) (one_expansion bytes (faulty undeclared) e refused is) (inl refl)
exactly bytes (Err Recursive) read refused e is = subst (λ x. Answers x (Err Recursive)) (one_expansion bytes (faulty recursive) e refused is) (inl refl)
exactly bytes (Err Limit) read refused e is = subst (λ x. Answers x (Err Limit)) (one_expansion bytes (faulty limit) e refused is) (inl refl)
exactly bytes (Err Syntax) read refused e is = subst (λ x. Answers x (Err Syntax)) (one_expansion bytes (faulty syntax) e refused is) (inl refl)
exactly bytes (Err NoMemory) read refused e is = no_memory_answers e
