-- What is made of spans.
use Rattle.std.proofs.Common.{◌≡◌, ℕ, ◌+◌, ◌*◌, ◌<◌, ◌≤◌, ◌^◌, min, max, Option, Some, None, refl, subst, arith, inl, inr, ◌⊎◌}
use Rattle.std.proofs.lemmas.Bool.{cases_lt}
use Rattle.arbitration.specs.declared.spans.Slots.{Slots}
use Rattle.arbitration.specs.Spans.{IsSpan, union_of, after_of, HasRoom, After}

pub span_union : (R S : ℕ → Type 0) (a b : Option Slots) → IsSpan R a → IsSpan S b → IsSpan (λ k. R k ⊎ S k) (union_of a b)
span_union R S None None f g = λ k h. elim h [ inl r ↦ f k r | inr s ↦ g k s ]
span_union R S None (Some t) f g =
    record { earliest = inr g.earliest; latest = inr g.latest; within = λ k h. elim h [ inl r ↦ absurd (f k r) | inr s ↦ g.within k s ] }
span_union R S (Some s) None f g =
    record { earliest = inl f.earliest; latest = inl f.latest; within = λ k h. elim h [ inl r ↦ f.within k r | inr s ↦ absurd (g k s) ] }
span_union R S (Some s) (Some t) f g =
    record {
      earliest = elim (cases_lt s.earliest t.earliest) [
        | inl lt ↦ inl (let e : s.earliest ≡ min s.earliest t.earliest = omega arith in subst R e f.earliest)
        | inr le ↦ inr (let e : t.earliest ≡ min s.earliest t.earliest = omega arith in subst S e g.earliest)
      ];
      latest = elim (cases_lt s.latest t.latest) [
        | inl lt ↦ inr (let e : t.latest ≡ max s.latest t.latest = omega arith in subst S e g.latest)
        | inr le ↦ inl (let e : s.latest ≡ max s.latest t.latest = omega arith in subst R e f.latest)
      ];
      within = λ k h. elim h [
        | inl r ↦ let w = f.within k r in (omega (arith, w.0), omega (arith, w.1))
        | inr r ↦ let w = g.within k r in (omega (arith, w.0), omega (arith, w.1))
      ];
    }

pub span_after : (R : ℕ → Type 0) (n : ℕ) (a : Option Slots) → IsSpan R a → IsSpan (After n R) (after_of n a)
span_after R n None f = λ k h. f h.0 h.2
span_after R n (Some s) f =
    record {
      earliest = (s.earliest, refl, f.earliest);
      latest = (s.latest, refl, f.latest);
      within = λ k h. let w = f.within h.0 h.2 in (omega (arith, w.0, h.1), omega (arith, w.1, h.1));
    }

pub span_same : (R S : ℕ → Type 0) (a : Option Slots) → ((k : ℕ) → R k → S k) → ((k : ℕ) → S k → R k) → IsSpan R a → IsSpan S a
span_same R S None f g h = λ k s. h k (g k s)
span_same R S (Some s) f g h =
    record { earliest = f s.earliest h.earliest; latest = f s.latest h.latest; within = λ k r. h.within k (g k r) }

-- the same after each number of bytes from lo to hi
abbrev pub Between : ℕ → ℕ → (ℕ → Type 0) → ℕ → Type 0
Between lo hi R k = (n : ℕ) × (lo ≤ n) × (n ≤ hi) × After (9 * n) R k

pub span_between : (R : ℕ → Type 0) (lo hi : ℕ) (a : Option Slots) → lo ≤ hi → IsSpan R a → IsSpan (Between lo hi R) (union_of (after_of (9 * lo) a) (after_of (9 * hi) a))
span_between R lo hi None le f = λ k h. f h.3.0 h.3.2
span_between R lo hi (Some s) le f =
    record {
      earliest = (lo, omega arith, le, (s.earliest, omega arith, f.earliest));
      latest = (hi, le, omega arith, (s.latest, omega arith, f.latest));
      within = λ k h. let w = f.within h.3.0 h.3.2 in (omega (arith, w.0, h.1, h.2, h.3.1), omega (arith, w.1, h.1, h.2, h.3.1));
    }

-- what happens only so soon leaves room for what comes before
pub room : (R : ℕ → Type 0) (n : ℕ) (a : Option Slots) → IsSpan R a → ((k : ℕ) → R k → k + n < 2 ^ 32) → HasRoom n a
room R n None f h = tt
room R n (Some s) f h = (h s.earliest f.earliest, h s.latest f.latest)

pub less_room : (m n : ℕ) (a : Option Slots) → m ≤ n → HasRoom n a → HasRoom m a
less_room m n None le h = tt
less_room m n (Some s) le h = (omega (arith, h.0, le), omega (arith, h.1, le))
