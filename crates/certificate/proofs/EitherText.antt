-- Each text has one reading: a value or a first refusal.
use Rattle.std.proofs.Common.{◌≡◌, ◌⊎◌, inl, inr, ◌<◌, ◌^◌, ℕ, Bool, true, false, ◌==◌, ◌++◌, List, length, refl, ap, sym, ◌∙◌, subst, codes}
use Rattle.std.proofs.lemmas.Bool.{eqb-true, eqb-false}
use Rattle.std.specs.Prelude.{Result, Ok, Err, IfOk, IfErr, MatchResult}
use Rattle.certificate.specs.declared.errors.CertError.{CertError}
use Rattle.certificate.specs.declared.errors.CertError.TheVariants.{Wrong, NoMemory}
use Rattle.certificate.specs.declared.errors.CertFault.{CertFault}
use Rattle.certificate.specs.declared.errors.CertFault.TheVariants.{Format, Count, TooDeep, Pair}
use Rattle.certificate.specs.declared.values.CertText.{CertText}
use Rattle.certificate.specs.Certificates.{Certificate, proofs, flaw, certificate_of}
use Rattle.certificate.specs.Places.{Refuses}
use Rattle.certificate.specs.Reader.{FormFault, misplaced, too_deep, Said, announced, faulty, text_said}
use Rattle.certificate.specs.Reading.{Fails}
use Rattle.certificate.specs.Refusals.{First, Miscounts, Says}
use Rattle.certificate.specs.Texts.{Spells, proofs_text}
use Rattle.certificate.proofs.AgainLemmas.{announced_again, faulty_again}
use Rattle.certificate.proofs.TakesLemmas.{ok_is}
use Rattle.certificate.proofs.TextTakes.{text_takes}

-- ---- what is spelled is said

abbrev said_of : Certificate → Said
said_of (proofs trees) = announced (length trees) trees
said_of (flaw pair wire first second) = faulty pair wire first second

abbrev value_of : Said → Certificate
value_of (announced number trees) = proofs trees
value_of (faulty pair wire first second) = flaw pair wire first second

value_said : (c : Certificate) → value_of (said_of c) ≡ c
value_said (proofs trees) = refl
value_said (flaw pair wire first second) = refl

pub said_again : (text : List ℕ) (said : Said) → Says text said → text_said text ≡ Ok said
said_again text (announced number trees) s = ap text_said s.2 ∙ announced_again number trees s.0 s.1
said_again text (faulty pair wire first second) s = ap text_said s.text_is ∙ faulty_again pair wire first second s.printable.0 s.printable.1 s.printable.2

spelled_said : (text : List ℕ) (c : Certificate) → Spells text c → text_said text ≡ Ok (said_of c)
spelled_said text (proofs trees) s = said_again text (announced (length trees) trees) (s.printable.1, s.printable.0, s.text_is)
spelled_said text (flaw pair wire first second) s = said_again text (faulty pair wire first second) s

miscount_said : (text : List ℕ) (m : Miscounts text) → text_said text ≡ Ok (announced m.number m.trees)
miscount_said text m = said_again text (announced m.number m.trees) (m.number_fits, m.printable, m.text_is)

pub one_value : (text : List ℕ) (c d : Certificate) → Spells text c → Spells text d → c ≡ d
one_value text c d s r = sym (value_said c) ∙ ap value_of (ok_is (said_of c) (said_of d) (sym (spelled_said text c s) ∙ spelled_said text d r)) ∙ value_said d

-- ---- either

not_refused : (text : List ℕ) (said : Said) (fault : FormFault) → text_said text ≡ Ok said → text_said text ≡ Err fault → ⊥
not_refused text said fault s f = let is : Ok said ≡ Err fault = sym s ∙ f in cc

not_miscounted : (text : List ℕ) (c : Certificate) → Spells text c → Miscounts text → ⊥
not_miscounted text (proofs ts) s m =
    let is = ok_is (announced m.number m.trees) (announced (length ts) ts) (sym (miscount_said text m) ∙ spelled_said text (proofs ts) s) in
    let number : m.number ≡ length ts = cc in
    let trees : m.trees ≡ ts = cc in
    m.differs (number ∙ ap length (sym trees))
not_miscounted text (flaw pair wire first second) s m =
    let is = ok_is (announced m.number m.trees) (faulty pair wire first second) (sym (miscount_said text m) ∙ spelled_said text (flaw pair wire first second) s) in cc

pub not_both : (text : List ℕ) (c : Certificate) (e : CertFault) → Spells text c → First text e → ⊥
not_both text c (Format line) s f = not_refused text (said_of c) (misplaced line) (spelled_said text c s) f
not_both text c (TooDeep line) s f = not_refused text (said_of c) (too_deep line) (spelled_said text c s) f
not_both text c Count s f = not_miscounted text c s f
not_both text c (Pair i) s f = f

pub one_refusal : (text : List ℕ) (e f : CertFault) → First text e → First text f → e ≡ f
one_refusal text (Format l) (Format m) h k = let is : Err (misplaced l) ≡ Err (misplaced m) = sym h ∙ k in cc
one_refusal text (Format l) (TooDeep m) h k = let is : Err (misplaced l) ≡ Err (too_deep m) = sym h ∙ k in cc
one_refusal text (TooDeep l) (Format m) h k = let is : Err (too_deep l) ≡ Err (misplaced m) = sym h ∙ k in cc
one_refusal text (TooDeep l) (TooDeep m) h k = let is : Err (too_deep l) ≡ Err (too_deep m) = sym h ∙ k in cc
one_refusal text Count Count h k = refl
one_refusal text (Format l) Count h k = absurd (not_refused text _ (misplaced l) (miscount_said text k) h)
one_refusal text (TooDeep l) Count h k = absurd (not_refused text _ (too_deep l) (miscount_said text k) h)
one_refusal text Count (Format m) h k = absurd (not_refused text _ (misplaced m) (miscount_said text h) k)
one_refusal text Count (TooDeep m) h k = absurd (not_refused text _ (too_deep m) (miscount_said text h) k)
one_refusal text (Pair i) f h k = absurd h
one_refusal text e (Pair i) h k = absurd k

-- what a text says, or why it says nothing
abbrev Reading : List ℕ → Type 0
Reading text = ((c : Certificate) × Spells text c) ⊎ ((e : CertFault) × First text e)

by_said : (text : List ℕ) (r : Result Said FormFault) → text_said text ≡ r → Reading text
by_said text (Err (misplaced line)) e = inr (Format line, e)
by_said text (Err (too_deep line)) e = inr (TooDeep line, e)
by_said text (Ok (faulty pair wire first second)) e = inl (flaw pair wire first second, text_takes text (faulty pair wire first second) e)
by_said text (Ok (announced number trees)) e = counted (number == length trees) refl
  where
    counted : (same : Bool) → (number == length trees) ≡ same → Reading text
    counted true same =
        let is : number ≡ length trees = eqb-true number (length trees) same in
        let taken = text_takes text (announced number trees) e in
        inl (proofs trees, record { printable = (taken.1, subst (λ (n : ℕ). n < 2 ^ 32) is taken.0); text_is = subst (λ (n : ℕ). text ≡ codes "cert 1\n" ++ proofs_text n trees) is taken.2 })
    counted false other =
        let taken = text_takes text (announced number trees) e in
        inr (Count, record { number = number; trees = trees; number_fits = taken.0; printable = taken.1; text_is = taken.2; differs = eqb-false number (length trees) other })

pub one_of_both : (text : List ℕ) → Reading text
one_of_both text = by_said text (text_said text) refl

-- ---- what is right is answered

-- what is refused as a whole text
pub fails_from : (text : List ℕ) (e : CertError) → Refuses (text_said text) e → Fails text e
fails_from text NoMemory h = tt
fails_from text (Wrong (Format line)) h = h
fails_from text (Wrong (TooDeep line)) h = h
fails_from text (Wrong Count) h = absurd h
fails_from text (Wrong (Pair i)) h = h

pub values : (text : List ℕ) (r : Result CertText CertError) → IfOk r (λ it. Spells text (certificate_of it)) → IfErr r (Fails text)
    → (value : Certificate) → Spells text value → MatchResult r (λ it. certificate_of it ≡ value) (λ e. e ≡ NoMemory)
values text (Ok it) spelled refused value s = one_value text (certificate_of it) value spelled s
values text (Err NoMemory) spelled refused value s = refl
values text (Err (Wrong fault)) spelled refused value s = absurd (not_both text value fault s refused)

pub refusals : (text : List ℕ) (r : Result CertText CertError) → IfOk r (λ it. Spells text (certificate_of it)) → IfErr r (Fails text)
    → (fault : CertFault) → First text fault → MatchResult r (λ it. ⊥) (λ e. (e ≡ NoMemory) ⊎ (e ≡ Wrong fault))
refusals text (Ok it) spelled refused fault f = not_both text (certificate_of it) fault spelled f
refusals text (Err NoMemory) spelled refused fault f = inl refl
refusals text (Err (Wrong other)) spelled refused fault f = inr (ap Wrong (one_refusal text other fault refused f))
