-- The groups that the firsts of an order make.
use Rattle.std.proofs.Common.{◌≡◌, ℕ, ◌<◌, Some, List, length, slice_get, ap, sym, subst, ◌∙◌, arith}
use Rattle.std.specs.Prelude.{nat_eq}
use Rattle.std.specs.List.{count_by}
use Rattle.std.proofs.Math.Seq.{take-length}
use Rattle.std.proofs.lemmas.List.{length-map}
use Rattle.std.proofs.lemmas.Option.{slice_get_within}
use Rattle.certificate.specs.declared.values.Fault.{Fault}
use Rattle.plan_core.specs.Contents.{Contents}
use Rattle.causes.specs.Causes.{cause_of, causes_of, wires_of}
use Rattle.plan_core.proofs.ListLemmas.{some_at}
use Rattle.causes.specs.declared.families.Family.{Family}
use Rattle.causes.specs.declared.groups.Group.{Group}
use Rattle.causes.specs.declared.meetings.Cause.{Cause}
use Rattle.causes.specs.Groupings.{AreGroups, IsNoLater}
use Rattle.causes.specs.Orders.{IsOrder, AreFirsts, AreNumbers, AreCounts, AreGroupsAt, IsWithin, AllKnown}

-- a plan has as many causes as wires
pub same_count : (plan : Contents) (families : List Family) (faults : List (ℕ × Fault)) (causes : List Cause) → causes ≡ causes_of plan families faults → length (wires_of faults) ≡ length causes
same_count plan families faults causes e =
    length-map faults (λ (found : ℕ × Fault). length found.1.wire.items) ∙ sym (ap length e ∙ length-map faults (cause_of plan families))

-- what stands in an order of these wires is within as many causes
pub order_within : (causes : List Cause) (wires : List ℕ) (order : List (ℕ × ℕ)) → length wires ≡ length causes → IsOrder wires order → IsWithin (length causes) order
order_within causes wires order same ord i p e = omega (arith, slice_get_within wires p.1 p.0 (ord.of i p e), same)

module _ (causes : List Cause) (wires : List ℕ) (order : List (ℕ × ℕ)) (keys : List Cause) (places : List ℕ) (same : length wires ≡ length causes) (ord : IsOrder wires order) (firsts : AreFirsts causes order (length order) keys places) where
  pub all_known : AllKnown keys causes
  all_known k c e =
      let l = some_at wires k (omega (arith, slice_get_within causes k c e, same)) in
      let r = ord.all k l.0 l.1 in
      firsts.known r.0 (l.0, k) c (slice_get_within order r.0 (l.0, k) r.1) r.1 e

  module _ (numbers counts : List ℕ) (groups : List Group) (nums : AreNumbers keys causes (length causes) numbers) (counted : AreCounts (length places) numbers (length numbers) counts) (at : AreGroupsAt causes order places counts (length places) groups) where
    -- where the example of a group stands
    record Stands (g : ℕ) (group : Group) : Type 0 where
      i : ℕ
      p : ℕ × ℕ
      placed : slice_get places g ≡ Some i
      ordered : slice_get order i ≡ Some p
      key : slice_get keys g ≡ Some group.cause
      cause : slice_get causes p.1 ≡ Some group.cause
      example : group.example ≡ p.1

    stands : (g : ℕ) (group : Group) → slice_get groups g ≡ Some group → Stands g group
    stands g group e =
        let within = slice_get_within groups g group e in
        let i = some_at places g (omega (arith, within, at.whole)) in
        let p = some_at order i.0 (firsts.below g i.0 i.1) in
        let c = some_at keys g (omega (arith, within, at.whole, firsts.paired)) in
        let has = at.cause g i.0 p.0 group e i.1 p.1 in
        let one : Some c.0 ≡ Some group.cause = sym (firsts.of g i.0 p.0 c.0 i.1 p.1 c.1) ∙ has in
        record {
          i = i.0;
          p = p.0;
          placed = i.1;
          ordered = p.1;
          key = c.1 ∙ one;
          cause = has;
          example = at.example g i.0 p.0 group e i.1 p.1;
        }

    example_stands : (g : ℕ) (group : Group) → slice_get groups g ≡ Some group → slice_get numbers group.example ≡ Some g
    example_stands g group e =
        let s = stands g group e in
        let h = some_at numbers s.p.1 (omega (arith, slice_get_within causes s.p.1 group.cause s.cause, nums.whole)) in
        let one = firsts.once h.0 g group.cause (nums.each s.p.1 h.0 h.1 ∙ s.cause) s.key in
        ap (slice_get numbers) s.example ∙ (h.1 ∙ ap Some one)

    wire_at : (i : ℕ) (p : ℕ × ℕ) (l : ℕ) → slice_get order i ≡ Some p → slice_get wires p.1 ≡ Some l → p.0 ≡ l
    wire_at i p l e f =
        let one : Some p.0 ≡ Some l = sym (ord.of i p e) ∙ f in
        cc

    shortest_stands : (g k l m : ℕ) (group : Group) → slice_get groups g ≡ Some group → slice_get numbers k ≡ Some g → slice_get wires group.example ≡ Some l → slice_get wires k ≡ Some m → IsNoLater (l, group.example) (m, k)
    shortest_stands g k l m group e f u v =
        let s = stands g group e in
        let r = ord.all k m v in
        let has : slice_get causes k ≡ Some group.cause = sym (nums.each k g f) ∙ s.key in
        let early = firsts.earliest g s.i r.0 (m, k) group.cause s.placed s.key (slice_get_within order r.0 (m, k) r.1) r.1 has in
        let len = wire_at s.i s.p l s.ordered (ap (slice_get wires) (sym s.example) ∙ u) in
        let it = ord.sorted s.i r.0 s.p (m, k) early s.ordered r.1 in
        subst (λ (a : ℕ). IsNoLater (a, group.example) (m, k)) len (subst (λ (b : ℕ). IsNoLater (s.p.0, b) (m, k)) (sym s.example) it)

    in_order_stands : (g h l m : ℕ) (a b : Group) → g < h → slice_get groups g ≡ Some a → slice_get groups h ≡ Some b → slice_get wires a.example ≡ Some l → slice_get wires b.example ≡ Some m → IsNoLater (l, a.example) (m, b.example)
    in_order_stands g h l m a b lt e f u v =
        let s = stands g a e in
        let r = stands h b f in
        let before = firsts.ascending g h s.i r.i lt s.placed r.placed in
        let it = ord.sorted s.i r.i s.p r.p (omega (arith, before)) s.ordered r.ordered in
        let low = wire_at s.i s.p l s.ordered (ap (slice_get wires) (sym s.example) ∙ u) in
        let high = wire_at r.i r.p m r.ordered (ap (slice_get wires) (sym r.example) ∙ v) in
        let first = subst (λ (x : ℕ). IsNoLater (x, a.example) r.p) low (subst (λ (x : ℕ). IsNoLater (s.p.0, x) r.p) (sym s.example) it) in
        subst (λ (x : ℕ). IsNoLater (l, a.example) (x, b.example)) high (subst (λ (x : ℕ). IsNoLater (l, a.example) (r.p.0, x)) (sym r.example) first)

    pub grouped : AreGroups causes wires groups numbers
    grouped = record {
      whole = nums.whole;
      in_one = λ k g e. omega (arith, nums.within k g e, firsts.paired, at.whole);
      own = λ k g group e f. sym (nums.each k g e) ∙ (stands g group f).key;
      same = λ j k g h e f. (
        (λ one. sym (nums.each j g e) ∙ (ap (slice_get keys) one ∙ nums.each k h f)),
        (λ one.
            let c = some_at keys g (nums.within j g e) in
            firsts.once g h c.0 c.1 (nums.each k h f ∙ (sym one ∙ (sym (nums.each j g e) ∙ c.1)))),
      );
      distinct = λ g h a b e f one. firsts.once g h a.cause (stands g a e).key ((stands h b f).key ∙ ap Some (sym one));
      counted = λ g group e.
          let within = slice_get_within groups g group e in
          let one : Some group.pairs ≡ Some (count_by (nat_eq g) numbers) = sym (at.pairs g group e) ∙ (counted.each g (omega (arith, within, at.whole)) ∙ ap (λ (xs : List ℕ). Some (count_by (nat_eq g) xs)) (take-length numbers)) in
          cc;
      example = example_stands;
      shortest = shortest_stands;
      in_order = in_order_stands;
    }
