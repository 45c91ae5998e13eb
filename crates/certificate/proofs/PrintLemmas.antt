-- Printing: what is written and what is still to be written are the text.
use Rattle.std.proofs.Common.{◌≡◌, ℕ, ◌+◌, ◌<◌, map, Bor, List, [], ◌∷◌, ◌++◌, refl, ap, sym, ◌∙◌, arith, append-nil, append_assoc}
use Rattle.std.proofs.lemmas.List.{map_push}
use Rattle.certificate.specs.declared.values.Cert.{Cert}
use Rattle.certificate.specs.Printing.{nodes, pending_text, pending_nodes}
use Rattle.certificate.specs.Proofs.{ProofTree, again, proof_tree}
use Rattle.certificate.specs.Texts.{proof_text}

-- what is pending last is written first
pub pending_push : (trees : List ProofTree) (tree : ProofTree) → pending_text (trees ++ tree ∷ []) ≡ (32 ∷ proof_text tree) ++ pending_text trees
pending_push [] tree = sym (append-nil (32 ∷ proof_text tree))
pending_push (t ∷ trees) tree =
    ap (λ (text : List ℕ). text ++ (32 ∷ proof_text t)) (pending_push trees tree) ∙ append_assoc (32 ∷ proof_text tree) (pending_text trees) (32 ∷ proof_text t)

pub nodes_push : (trees : List ProofTree) (tree : ProofTree) → pending_nodes (trees ++ tree ∷ []) ≡ pending_nodes trees + nodes tree
nodes_push [] tree = omega arith
nodes_push (t ∷ trees) tree = omega (arith, nodes_push trees tree)

-- a letter, and one proof below it
pub one_pending : (text : List ℕ) (letter : ℕ) (trees : List ProofTree) (p : ProofTree)
    → (text ++ letter ∷ []) ++ pending_text (trees ++ p ∷ []) ≡ text ++ ((letter ∷ (32 ∷ proof_text p)) ++ pending_text trees)
one_pending text letter trees p = append_assoc text (letter ∷ []) (pending_text (trees ++ p ∷ [])) ∙ ap (λ (t : List ℕ). text ++ (letter ∷ t)) (pending_push trees p)

-- a letter, and two proofs below it, the first of them last in the list
pub two_pending : (text : List ℕ) (letter : ℕ) (trees : List ProofTree) (p q : ProofTree)
    → (text ++ letter ∷ []) ++ pending_text ((trees ++ q ∷ []) ++ p ∷ []) ≡ text ++ ((letter ∷ (32 ∷ (proof_text p ++ (32 ∷ proof_text q)))) ++ pending_text trees)
two_pending text letter trees p q =
    append_assoc text (letter ∷ []) (pending_text ((trees ++ q ∷ []) ++ p ∷ []))
    ∙ ap (λ (t : List ℕ). text ++ (letter ∷ t)) (pending_push (trees ++ q ∷ []) p)
    ∙ ap (λ (t : List ℕ). text ++ (letter ∷ (32 ∷ (proof_text p ++ t)))) (pending_push trees q)
    ∙ ap (λ (t : List ℕ). text ++ (letter ∷ (32 ∷ t))) (sym (append_assoc (proof_text p) (32 ∷ proof_text q) (pending_text trees)))

-- the tree that a reference in the list stands for
abbrev pub tree_at : Bor Cert → ProofTree
tree_at p = proof_tree p.now

-- ---- one more in the list

trees_push : (items pushed : List (Bor Cert)) (p : Bor Cert) (tree : ProofTree) → pushed ≡ items ++ p ∷ [] → proof_tree p.now ≡ tree → map tree_at pushed ≡ map tree_at items ++ tree ∷ []
trees_push items pushed p tree more is =
    ap (map tree_at) more ∙ map_push tree_at items p ∙ ap (λ (t : ProofTree). map tree_at items ++ t ∷ []) is

-- ---- a node with one proof below it

pub again_written : (old new : List ℕ) (items pushed : List (Bor Cert)) (p : Bor Cert) (frames : ProofTree) → new ≡ old ++ 83 ∷ [] → pushed ≡ items ++ p ∷ [] → proof_tree p.now ≡ frames
    → new ++ pending_text (map tree_at pushed) ≡ old ++ (proof_text (again frames) ++ pending_text (map tree_at items))
again_written old new items pushed p frames written more is =
    ap (λ (t : List ℕ). t ++ pending_text (map tree_at pushed)) written
    ∙ ap (λ (ts : List ProofTree). (old ++ 83 ∷ []) ++ pending_text ts) (trees_push items pushed p frames more is)
    ∙ one_pending old 83 (map tree_at items) frames

pub again_less : (items pushed : List (Bor Cert)) (p : Bor Cert) (frames : ProofTree) → pushed ≡ items ++ p ∷ [] → proof_tree p.now ≡ frames
    → pending_nodes (map tree_at pushed) + 1 ≡ pending_nodes (map tree_at items) + nodes (again frames)
again_less items pushed p frames more is =
    let one = ap pending_nodes (trees_push items pushed p frames more is) ∙ nodes_push (map tree_at items) frames in
    omega (arith, one)

-- ---- a node with two proofs below it

module _ (items between pushed : List (Bor Cert)) (p q : Bor Cert) (first second : ProofTree)
    (one : between ≡ items ++ q ∷ []) (two : pushed ≡ between ++ p ∷ []) (p_is : proof_tree p.now ≡ first) (q_is : proof_tree q.now ≡ second) where
  both_pushed : map tree_at pushed ≡ (map tree_at items ++ second ∷ []) ++ first ∷ []
  both_pushed = trees_push between pushed p first two p_is ∙ ap (λ (ts : List ProofTree). ts ++ first ∷ []) (trees_push items between q second one q_is)

  pub both_written : (old new : List ℕ) (letter : ℕ) → new ≡ old ++ letter ∷ []
      → new ++ pending_text (map tree_at pushed) ≡ old ++ ((letter ∷ (32 ∷ (proof_text first ++ (32 ∷ proof_text second)))) ++ pending_text (map tree_at items))
  both_written old new letter written =
      ap (λ (t : List ℕ). t ++ pending_text (map tree_at pushed)) written
      ∙ ap (λ (ts : List ProofTree). (old ++ letter ∷ []) ++ pending_text ts) both_pushed
      ∙ two_pending old letter (map tree_at items) first second

  pub both_less : pending_nodes (map tree_at pushed) + 1 ≡ pending_nodes (map tree_at items) + (1 + (nodes first + nodes second))
  both_less =
      let sum = ap pending_nodes both_pushed ∙ nodes_push (map tree_at items ++ second ∷ []) first in
      omega (arith, sum, nodes_push (map tree_at items) second)

-- ---- the next of the list

module _ (items popped pushed : List (Bor Cert)) (next : Bor Cert) (taken : items ≡ popped ++ next ∷ []) where
  pub line_more : (whole bytes spaced new : List ℕ) → bytes ++ pending_text (map tree_at items) ≡ whole → spaced ≡ bytes ++ 32 ∷ []
      → new ++ pending_text (map tree_at pushed) ≡ spaced ++ (proof_text (proof_tree next.now) ++ pending_text (map tree_at popped))
      → new ++ pending_text (map tree_at pushed) ≡ whole
  line_more whole bytes spaced new before space node =
      node
      ∙ ap (λ (t : List ℕ). t ++ (proof_text (proof_tree next.now) ++ pending_text (map tree_at popped))) space
      ∙ append_assoc bytes (32 ∷ []) _
      ∙ ap (λ (t : List ℕ). bytes ++ t) (sym (pending_push (map tree_at popped) (proof_tree next.now)))
      ∙ ap (λ (ts : List ProofTree). bytes ++ pending_text ts) (sym (trees_push popped items next (proof_tree next.now) taken refl))
      ∙ before

  pub line_less : pending_nodes (map tree_at pushed) + 1 ≡ pending_nodes (map tree_at popped) + nodes (proof_tree next.now) → pending_nodes (map tree_at pushed) < pending_nodes (map tree_at items)
  line_less less =
      let before = ap pending_nodes (trees_push popped items next (proof_tree next.now) taken refl) ∙ nodes_push (map tree_at popped) (proof_tree next.now) in
      omega (arith, less, before)
