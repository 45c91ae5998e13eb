-- The derived test for equality of causes is equality.
use Rattle.std.proofs.Common.{◌≡◌, ℕ, ◌&&◌, ◌==◌, Bool, true, false, refl, arith}
use Rattle.std.proofs.lemmas.Bool.Decides.{nat_tests}
use Rattle.message_tree.specs.declared.items.Kind.{Kind}
use Rattle.message_tree.specs.declared.items.Kind.TheVariants as kind
use Rattle.causes.specs.declared.families.Family.{Family}
use Rattle.causes.specs.declared.families.Family.TheVariants.{Messages, Interrupt}
use Rattle.causes.specs.declared.meetings.Cause.{Cause}
use Rattle.causes.specs.declared.meetings.Place.{Place}
use Rattle.causes.specs.declared.meetings.Place.TheVariants.{Header, Data, Byte}
use Rattle.causes.specs.declared.sides.Side.{Side}
use Rattle.message_tree.specs.contracts.items.KindPartialEq.TheImpl as kind_eq
use Rattle.causes.specs.contracts.meetings.CausePartialEq.TheImpl as cause_eq
use Rattle.causes.specs.contracts.meetings.PlacePartialEq.TheImpl as place_eq
use Rattle.causes.specs.contracts.sides.SidePartialEq.TheImpl as side_eq
use Rattle.causes.specs.contracts.families.FamilyPartialEq.TheImpl as family_eq

family_exact : (a b : Family) → family_eq.eq-value.it a b ≡ true → a ≡ b
family_exact (Messages m c) (Messages n d) h = grind (arith, nat_tests)
family_exact (Messages m c) (Interrupt k) h = cc
family_exact (Interrupt k) (Messages m c) h = cc
family_exact (Interrupt k) (Interrupt l) h = grind (arith, nat_tests)

place_exact : (a b : Place) → place_eq.eq-value.it a b ≡ true → a ≡ b
place_exact Header Header h = refl
place_exact Header Data h = cc
place_exact Header (Byte m) h = cc
place_exact Data Header h = cc
place_exact Data Data h = refl
place_exact Data (Byte m) h = cc
place_exact (Byte n) Header h = cc
place_exact (Byte n) Data h = cc
place_exact (Byte n) (Byte m) h = grind (arith, nat_tests)

kind_exact : (a b : Kind) → kind_eq.eq-value.it a b ≡ true → a ≡ b
kind_exact kind.Sent kind.Sent h = refl
kind_exact kind.Sent kind.Heard h = cc
kind_exact kind.Sent kind.Again h = cc
kind_exact kind.Sent kind.Stop h = cc
kind_exact kind.Sent kind.Claim h = cc
kind_exact kind.Heard kind.Sent h = cc
kind_exact kind.Heard kind.Heard h = refl
kind_exact kind.Heard kind.Again h = cc
kind_exact kind.Heard kind.Stop h = cc
kind_exact kind.Heard kind.Claim h = cc
kind_exact kind.Again kind.Sent h = cc
kind_exact kind.Again kind.Heard h = cc
kind_exact kind.Again kind.Again h = refl
kind_exact kind.Again kind.Stop h = cc
kind_exact kind.Again kind.Claim h = cc
kind_exact kind.Stop kind.Sent h = cc
kind_exact kind.Stop kind.Heard h = cc
kind_exact kind.Stop kind.Again h = cc
kind_exact kind.Stop kind.Stop h = refl
kind_exact kind.Stop kind.Claim h = cc
kind_exact kind.Claim kind.Sent h = cc
kind_exact kind.Claim kind.Heard h = cc
kind_exact kind.Claim kind.Again h = cc
kind_exact kind.Claim kind.Stop h = cc
kind_exact kind.Claim kind.Claim h = refl

both_of : (a b : Bool) → (a && b) ≡ true → (a ≡ true) × (b ≡ true)
both_of true true h = (refl, refl)
both_of true false h = cc
both_of false b h = cc

both : (a b : Bool) → a ≡ true → b ≡ true → (a && b) ≡ true
both a b e f = cc

side_exact : (a b : Side) → side_eq.eq-value.it a b ≡ true → a ≡ b
side_exact a b h =
    let p = both_of (family_eq.eq-value.it a.family b.family) (kind_eq.eq-value.it a.kind b.kind) h in
    (λ i. record { family = family_exact a.family b.family p.0 i; kind = kind_exact a.kind b.kind p.1 i })

same_number : (m n : ℕ) → (m == n) ≡ true → m ≡ n
same_number m n h = grind (arith, nat_tests)

pub exact : (x y : Cause) → cause_eq.eq-value.it x y ≡ true → x ≡ y
exact x y h =
    let p = both_of (side_eq.eq-value.it x.first y.first) (side_eq.eq-value.it x.second y.second && ((x.frame == y.frame) && ((x.header == y.header) && place_eq.eq-value.it x.place y.place))) h in
    let q = both_of (side_eq.eq-value.it x.second y.second) ((x.frame == y.frame) && ((x.header == y.header) && place_eq.eq-value.it x.place y.place)) p.1 in
    let r = both_of (x.frame == y.frame) ((x.header == y.header) && place_eq.eq-value.it x.place y.place) q.1 in
    let s = both_of (x.header == y.header) (place_eq.eq-value.it x.place y.place) r.1 in
    (λ i. record {
      first = side_exact x.first y.first p.0 i;
      second = side_exact x.second y.second q.0 i;
      frame = same_number x.frame y.frame r.0 i;
      header = same_number x.header y.header s.0 i;
      place = place_exact x.place y.place s.1 i;
    })

family_itself : (a : Family) → family_eq.eq-value.it a a ≡ true
family_itself (Messages m c) = grind (arith, nat_tests)
family_itself (Interrupt k) = grind (arith, nat_tests)

kind_itself : (a : Kind) → kind_eq.eq-value.it a a ≡ true
kind_itself kind.Sent = refl
kind_itself kind.Heard = refl
kind_itself kind.Again = refl
kind_itself kind.Stop = refl
kind_itself kind.Claim = refl

place_itself : (a : Place) → place_eq.eq-value.it a a ≡ true
place_itself Header = refl
place_itself Data = refl
place_itself (Byte n) = grind (arith, nat_tests)

number_itself : (n : ℕ) → (n == n) ≡ true
number_itself n = grind (arith, nat_tests)

side_itself : (a : Side) → side_eq.eq-value.it a a ≡ true
side_itself a = both (family_eq.eq-value.it a.family a.family) (kind_eq.eq-value.it a.kind a.kind) (family_itself a.family) (kind_itself a.kind)

pub itself : (x : Cause) → cause_eq.eq-value.it x x ≡ true
itself x =
    let last = both (x.header == x.header) (place_eq.eq-value.it x.place x.place) (number_itself x.header) (place_itself x.place) in
    let most = both (x.frame == x.frame) ((x.header == x.header) && place_eq.eq-value.it x.place x.place) (number_itself x.frame) last in
    let rest = both (side_eq.eq-value.it x.second x.second) ((x.frame == x.frame) && ((x.header == x.header) && place_eq.eq-value.it x.place x.place)) (side_itself x.second) most in
    both (side_eq.eq-value.it x.first x.first) (side_eq.eq-value.it x.second x.second && ((x.frame == x.frame) && ((x.header == x.header) && place_eq.eq-value.it x.place x.place))) (side_itself x.first) rest
