-- What the functions of the reader say of the bytes that are left. Only private contracts and proofs use this.
use Rattle.std.specs.Prelude.{◌≡◌, ℕ, List, length, Result, Ok, Err}
use Rattle.message_tree.specs.declared.items.Item.{Item}
use Rattle.message_tree.specs.declared.items.Kind.{Kind}
use Rattle.certificate.specs.declared.errors.CertError.{CertError}
use Rattle.certificate.specs.declared.errors.CertError.TheVariants.{Wrong, NoMemory}
use Rattle.certificate.specs.declared.errors.CertFault.TheVariants.{Format, Count, TooDeep, Pair}
use Rattle.certificate.specs.declared.sources.Source.{Source}
use Rattle.certificate.specs.declared.values.Fault.{Fault}
use Rattle.certificate.specs.Reader.{Place, Reads, FormFault, misplaced, too_deep}

abbrev pub place : Source → Place
place source = record { line = source.line; rest = source.rest.now }

abbrev pub unread : Source → ℕ
unread source = length source.rest.now

abbrev pub parts_of : Fault → List Item × Kind × Kind
parts_of fault = (fault.wire.items, fault.first, fault.second)

-- the error is the refusal, or an allocation failed
abbrev pub Refuses : {A : Type 0} → Result A FormFault → CertError → Type 0
Refuses given NoMemory = Unit {0}
Refuses given (Wrong (Format line)) = given ≡ Err (misplaced line)
Refuses given (Wrong (TooDeep line)) = given ≡ Err (too_deep line)
Refuses given (Wrong Count) = ⊥
Refuses given (Wrong (Pair pair)) = ⊥

-- a call returned what reading gives, and stopped at the place after it
abbrev pub Gives : {X A : Type 0} → (X → A) → Result X CertError → Reads A → Place → Type 0
Gives view (Ok x) given after = given ≡ Ok (view x, after)
Gives view (Err e) given after = Refuses given e

-- a call took what stands in a fixed place
abbrev pub Passes : {X : Type 0} → Result X CertError → Result Place FormFault → Place → Type 0
Passes (Ok x) given after = given ≡ Ok after
Passes (Err e) given after = Refuses given e
