-- What phrases say does not depend on the lines of tokens, in the language of plans and in that of briefs.
use Rattle.std.proofs.Common.{◌≡◌, ◌⊎◌, inl, inr, Option, refl, ap, sym, ◌∙◌}
use Rattle.plan_text.specs.declared.errors.PlanError.{PlanError}

-- A phrase stands in all tokens that are the same but for their lines, and what follows it ends as all does.
pub record Respects {Tokens : Type 0} (bare : Tokens → Tokens) (end_of : Tokens → Option PlanError) (phrase : Tokens → Tokens → Type 0) : Type 0 where
  pub over : (from to other : Tokens) → phrase from to → bare from ≡ bare other → (there : Tokens) × (bare to ≡ bare there) × phrase other there
  pub ends : (from to : Tokens) → phrase from to → end_of from ≡ end_of to

module _ {Tokens : Type 0} {bare : Tokens → Tokens} {end_of : Tokens → Option PlanError} where
  pub nothing_respects : Respects bare end_of (λ from to. to ≡ from)
  nothing_respects = record { over = λ from to other s same. (other, ap bare s ∙ same, refl); ends = λ from to s. ap end_of (sym s) }

  infixr 20 ◌>>◌
  pub ◌>>◌ : {p q : Tokens → Tokens → Type 0} → Respects bare end_of p → Respects bare end_of q → Respects bare end_of (λ from to. (between : Tokens) × p from between × q between to)
  first >> second = record {
    over = λ from to other s same.
        let a = first.over from s.0 other s.1 same in
        let b = second.over s.0 to a.0 s.2 a.1 in
        (b.0, b.1, (a.0, a.2, b.2));
    ends = λ from to s. first.ends from s.0 s.1 ∙ second.ends s.0 to s.2;
  }

  pub or_respects : {p q : Tokens → Tokens → Type 0} → Respects bare end_of p → Respects bare end_of q → Respects bare end_of (λ from to. p from to ⊎ q from to)
  or_respects {p} {q} first second = record { over = over; ends = ends }
    where
      ends : (from to : Tokens) → p from to ⊎ q from to → end_of from ≡ end_of to
      ends from to (inl s) = first.ends from to s
      ends from to (inr s) = second.ends from to s

      over : (from to other : Tokens) → p from to ⊎ q from to → bare from ≡ bare other → (there : Tokens) × (bare to ≡ bare there) × (p other there ⊎ q other there)
      over from to other (inl s) same = let a = first.over from to other s same in (a.0, a.1, inl a.2)
      over from to other (inr s) same = let a = second.over from to other s same in (a.0, a.1, inr a.2)

  -- a phrase with a fact, and one of those of this kind with a fact of it
  pub also_respects : {p : Tokens → Tokens → Type 0} {A : Type 0} → Respects bare end_of p → Respects bare end_of (λ from to. p from to × A)
  also_respects first = record { over = λ from to other s same. let a = first.over from to other s.0 same in (a.0, a.1, (a.2, s.1)); ends = λ from to s. first.ends from to s.0 }

  pub given_respects : {p : Tokens → Tokens → Type 0} {A : Type 0} → Respects bare end_of p → Respects bare end_of (λ from to. A × p from to)
  given_respects first = record { over = λ from to other s same. let a = first.over from to other s.1 same in (a.0, a.1, (s.0, a.2)); ends = λ from to s. first.ends from to s.1 }

  pub some_respects : {B : Type 0} {p : B → Tokens → Tokens → Type 0} {A : B → Type 0} → ((x : B) → Respects bare end_of (p x)) → Respects bare end_of (λ from to. (x : B) × p x from to × A x)
  some_respects each = record {
    over = λ from to other s same. let a = (each s.0).over from to other s.1 same in (a.0, a.1, (s.0, a.2, s.2));
    ends = λ from to s. (each s.0).ends from to s.1;
  }
