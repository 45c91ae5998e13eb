-- Two messages to which one beginning leads never clash where what follows it never clashes.
use Rattle.std.proofs.Common.{◌≡◌, ℕ, zero, suc, ◌+◌, Option, Some, List, [], ◌∷◌, ◌++◌, slice_get, refl, ap, sym, ◌∙◌, subst, arith, inl, inr}
use Rattle.message_tree.specs.Patterns.{pattern_bits, address_bits}
use Rattle.pair_walk.specs.declared.shared.Node.{Node}
use Rattle.pair_walk.specs.declared.shared.Node.TheVariants as node
use Rattle.pair_walk.specs.declared.marks.Mark.{Mark}
use Rattle.pair_walk.specs.Marks.{leads_to, Leads, AreMarks}
use Rattle.pair_walk.specs.Shared.{Keeps, NeverMeet, MeetsLater}
use Rattle.pair_walk.proofs.SharedLemmas.{never_same, never_itself, meets_itself, agains_follow, bytes_follow, writes_follow, reads_follow, at_snoc}

-- ---- one step

follows_same : (nodes : List Node) (a b x y : ℕ) (n : Node) → slice_get nodes a ≡ Some (leads_to n x) → slice_get nodes b ≡ Some (leads_to n y) → NeverMeet nodes x y → NeverMeet nodes a b
follows_same nodes a b x y node.Stop e d m = agains_follow nodes a b x y e d m
follows_same nodes a b x y (node.Again i) e d m = agains_follow nodes a b x y e d m
follows_same nodes a b x y (node.Byte p i r) e d m =
    bytes_follow nodes a b p p x y r r e d (never_itself (pattern_bits p)) (m, never_same nodes r r refl)
follows_same nodes a b x y (node.Write p i r) e d m =
    writes_follow nodes a b p p x y r r e d (never_itself (address_bits p)) (m, never_same nodes r r refl)
follows_same nodes a b x y (node.Read p c i r) e d m =
    reads_follow nodes a b p p c c x y r r e d (never_itself (address_bits p)) (meets_itself c) (m, never_same nodes r r refl)

abbrev successor : Node → ℕ
successor node.Stop = 0
successor (node.Again i) = i
successor (node.Byte p i j) = i
successor (node.Write a i j) = i
successor (node.Read a c i j) = i

led_to : (n : Node) (k : ℕ) → successor (leads_to n k) ≡ k
led_to node.Stop k = refl
led_to (node.Again i) k = refl
led_to (node.Byte p i j) k = refl
led_to (node.Write a i j) k = refl
led_to (node.Read a c i j) k = refl

led_on : (n : Node) (k l : ℕ) → leads_to (leads_to n k) l ≡ leads_to n l
led_on node.Stop k l = refl
led_on (node.Again i) k l = refl
led_on (node.Byte p i j) k l = refl
led_on (node.Write a i j) k l = refl
led_on (node.Read a c i j) k l = refl

-- ---- one beginning

abbrev some_node : Node → Option Node
some_node n = Some n

meet_later : (nodes bs : List Node) (d e b x y to at : ℕ) → Leads nodes bs d b x to → Leads nodes bs e b y at → NeverMeet nodes to at → NeverMeet nodes x y
meet_later nodes bs zero zero b x y to at h i m =
    subst (λ (k : ℕ). NeverMeet nodes k y) (sym h.1) (subst (NeverMeet nodes to) (sym i.1) m)
meet_later nodes bs zero (suc e) b x y to at h i m = absurd (omega (arith, h.0, i.4))
meet_later nodes bs (suc d) zero b x y to at h i m = absurd (omega (arith, i.0, h.4))
meet_later nodes bs (suc d) (suc e) b x y to at h i m =
    let k : h.0 ≡ i.0 = omega (arith, h.4, i.4) in
    let both : Some (leads_to h.3 h.1) ≡ Some (leads_to i.3 i.1) = sym h.5 ∙ ap (slice_get bs) k ∙ i.5 in
    let same : leads_to h.3 h.1 ≡ leads_to i.3 i.1 = cc in
    let before : h.1 ≡ i.1 = sym (led_to h.3 h.1) ∙ ap successor same ∙ led_to i.3 i.1 in
    let on : leads_to i.3 at ≡ leads_to h.3 at =
    sym (led_on i.3 i.1 at) ∙ ap (λ (n : Node). leads_to n at) (sym same) ∙ led_on h.3 h.1 at in
    let last : NeverMeet nodes h.2 i.2 = follows_same nodes h.2 i.2 to at h.3 h.6 (i.6 ∙ ap some_node on) m in
    meet_later nodes bs d e h.1 x y h.2 i.2 h.7 (subst (λ (l : ℕ). Leads nodes bs e l y i.2) (sym before) i.7) last

pub from_marks : (marks : List Mark) (i j a b : ℕ) (p q : Mark) → slice_get marks i ≡ Some p → slice_get marks j ≡ Some q → p.root ≡ a → q.root ≡ b → p.beginning ≡ q.beginning → MeetsLater marks a b (p.node, q.node)
from_marks marks i j a b p q e d r s same nodes have m =
    let h = have.1 i p e in
    let l = have.1 j q d in
    let at = subst (λ (k : ℕ). Leads nodes have.0 l.0 k q.root q.node) (sym same) l.1 in
    let never : NeverMeet nodes p.root q.root = meet_later nodes have.0 h.0 l.0 p.beginning p.root q.root p.node q.node h.1 at m in
    subst (λ (k : ℕ). NeverMeet nodes k b) r (subst (NeverMeet nodes p.root) s never)

-- ---- marks that are made

leads_kept : (nodes old new : List Node) → Keeps old new → (d b x to : ℕ) → Leads nodes old d b x to → Leads nodes new d b x to
leads_kept nodes old new keeps zero b x to h = h
leads_kept nodes old new keeps (suc d) b x to h =
    (h.0, h.1, h.2, h.3, h.4, keeps h.0 _ h.5, h.6, leads_kept nodes old new keeps d h.1 x h.2 h.7)

pub marks_kept : (nodes old new : List Node) (marks : List Mark) → Keeps old new → AreMarks nodes old marks → AreMarks nodes new marks
marks_kept nodes old new marks keeps are k m e =
    let h = are k m e in
    (h.0, leads_kept nodes old new keeps h.0 m.beginning m.root m.node h.1)

pub mark_added : (nodes bs : List Node) (marks more : List Mark) (d : ℕ) (m : Mark) → AreMarks nodes bs marks → Leads nodes bs d m.beginning m.root m.node → more ≡ marks ++ m ∷ [] → AreMarks nodes bs more
mark_added nodes bs marks more d m are leads e k n h =
    elim (at_snoc marks m k n (rw e at h)) [
      | inl g ↦ are k n g
      | inr g ↦ (d, subst (λ (o : Mark). Leads nodes bs d o.beginning o.root o.node) g.1 leads)
    ]

pub begins_here : (nodes bs : List Node) (root : ℕ) → Leads nodes bs 0 0 root root
begins_here nodes bs root = (refl, refl)

pub leads_on : (nodes old new : List Node) (d b root last k to : ℕ) (step n : Node) → Keeps old new → Leads nodes old d b root last → slice_get new k ≡ Some step → step ≡ leads_to n b → slice_get nodes last ≡ Some (leads_to n to)
    → Leads nodes new (suc d) (k + 1) root to
leads_on nodes old new d b root last k to step n keeps leads stands is there =
    (k, b, last, n, refl, stands ∙ ap some_node is, there, leads_kept nodes old new keeps d b root last leads)
