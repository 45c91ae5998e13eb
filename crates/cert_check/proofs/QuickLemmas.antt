-- Proofs at the front of a text: a node, and what is below it.
use Rattle.std.proofs.Common.{◌≡◌, ℕ, ◌+◌, ◌-◌, ◌<◌, ◌≤◌, List, [], ◌∷◌, ◌++◌, length, take, drop, get_or, suc, refl, ap, sym, ◌∙◌, arith, append_assoc, length-append}
use Rattle.std.proofs.lemmas.Fmt.{decimal_digit}
use Rattle.std.proofs.lemmas.List.{take_all}
use Rattle.std.proofs.Math.Seq.{take-append_seam}
use Rattle.message_tree.specs.declared.bits.Bit.{Bit}
use Rattle.message_tree.specs.declared.bits.Pattern.{Pattern}
use Rattle.message_tree.specs.declared.bits.Address.{Address}
use Rattle.message_tree.specs.declared.counts.Count.{Count}
use Rattle.message_tree.specs.Bits.{SplitAt}
use Rattle.message_tree.specs.Trees as tree
use Rattle.message_tree.specs.Trees.{FrameTree, PayloadTree, TailTree}
use Rattle.certificate.specs.Proofs.{ProofTree, part, byte, read, again}
use Rattle.certificate.specs.Proves.{ProvesFrames, ProvesPayloads, ProvesTails, ProvesHeaders}
use Rattle.certificate.specs.Texts.{proof_text, proof_line}
use Rattle.plan_core.specs.Contents.{Contents}
use Rattle.cert_check.specs.Proved.{ProvesPair}
use Rattle.cert_check.specs.Quick.{Begins, BeginsSpaced, BeginsTwo, IsProvedLine}
use Rattle.cert_check.specs.Reads.{ProvesReads}

-- the first byte, and the others
first_is : (bytes : List ℕ) → 1 ≤ length bytes → bytes ≡ get_or bytes 0 0 ∷ take (length bytes - 1) (drop 1 bytes)
first_is [] some = absurd (omega arith)
first_is (b ∷ bytes) some =
    let whole : take (suc (length bytes) - 1) bytes ≡ bytes = take_all (suc (length bytes) - 1) bytes (omega arith) in
    ap (λ xs. b ∷ xs) (sym whole)

-- ---- nodes with nothing below them

-- the digit of a bit's place
pub split_begins : (text inner : List ℕ) (xs ys : List Bit) → text ≡ 80 ∷ inner → 1 ≤ length inner → 48 ≤ get_or inner 0 0 → get_or inner 0 0 ≤ 55 → SplitAt xs ys (get_or inner 0 0 - 48)
    → Begins 1 (λ t. ProvesHeaders t xs ys) text (take (length inner - 1) (drop 1 inner))
split_begins text inner xs ys e some least most split =
    let digit = get_or inner 0 0 in
    let rest = take (length inner - 1) (drop 1 inner) in
    let small : digit - 48 < 10 = omega arith in
    let back : 48 + (digit - 48) ≡ digit = omega arith in
    record {
      tree = part (digit - 48);
      printable = record { places = omega arith; path = omega arith };
      text_is =
          e
          ∙ ap (λ (t : List ℕ). 80 ∷ t) (first_is inner some)
          ∙ ap (λ (ds : List ℕ). 80 ∷ (ds ++ rest)) (sym (decimal_digit (digit - 48) small ∙ ap (λ (d : ℕ). d ∷ []) back));
      proves = split;
    }

-- ---- nodes with one or two below them

module _ (below room : ℕ) (text inner rest : List ℕ) (more : room ≡ below + 1) where
  one_begins : (P Q : ProofTree → Type 0) → text ≡ 83 ∷ 32 ∷ inner → Begins below P inner rest → ((p : ProofTree) → P p → Q (again p)) → Begins room Q text rest
  one_begins P Q e b so = record {
    tree = again b.tree;
    printable = record { places = b.printable.places; path = omega (arith, b.printable.path, more) };
    text_is = e ∙ ap (λ (t : List ℕ). 83 ∷ 32 ∷ t) b.text_is;
    proves = so b.tree b.proves;
  }

  module _ (P Q R : ProofTree → Type 0) (two : BeginsTwo below P Q inner rest) where
    two_text : inner ≡ (proof_text two.1.tree ++ (32 ∷ proof_text two.2.2.tree)) ++ rest
    two_text =
        two.1.text_is
        ∙ ap (λ (t : List ℕ). proof_text two.1.tree ++ t) (two.2.1 ∙ ap (λ (t : List ℕ). 32 ∷ t) two.2.2.text_is)
        ∙ sym (append_assoc (proof_text two.1.tree) (32 ∷ proof_text two.2.2.tree) rest)

    byte_begins : text ≡ 66 ∷ 32 ∷ inner → ((p q : ProofTree) → P p → Q q → R (byte p q)) → Begins room R text rest
    byte_begins e so = record {
      tree = byte two.1.tree two.2.2.tree;
      printable = record { places = (two.1.printable.places, two.2.2.printable.places); path = omega (arith, two.1.printable.path, two.2.2.printable.path, more) };
      text_is = e ∙ ap (λ (t : List ℕ). 66 ∷ 32 ∷ t) two_text;
      proves = so two.1.tree two.2.2.tree two.1.proves two.2.2.proves;
    }

    read_begins : text ≡ 68 ∷ 32 ∷ inner → ((p q : ProofTree) → P p → Q q → R (read p q)) → Begins room R text rest
    read_begins e so = record {
      tree = read two.1.tree two.2.2.tree;
      printable = record { places = (two.1.printable.places, two.2.2.printable.places); path = omega (arith, two.1.printable.path, two.2.2.printable.path, more) };
      text_is = e ∙ ap (λ (t : List ℕ). 68 ∷ 32 ∷ t) two_text;
      proves = so two.1.tree two.2.2.tree two.1.proves two.2.2.proves;
    }

  pub writes_begin : (a b : Address) (x y : PayloadTree) (r s : TailTree) → text ≡ 66 ∷ 32 ∷ inner → BeginsTwo below (λ t. ProvesPayloads t x y) (λ t. ProvesTails t r s) inner rest
      → Begins room (λ t. ProvesFrames t (tree.write a x r) (tree.write b y s)) text rest
  writes_begin a b x y r s e two =
      byte_begins (λ t. ProvesPayloads t x y) (λ t. ProvesTails t r s) (λ t. ProvesFrames t (tree.write a x r) (tree.write b y s)) two e (λ p q h k. (h, k))

  pub bytes_begin : (a b : Pattern) (x y : PayloadTree) (r s : TailTree) → text ≡ 66 ∷ 32 ∷ inner → BeginsTwo below (λ t. ProvesPayloads t x y) (λ t. ProvesTails t r s) inner rest
      → Begins room (λ t. ProvesPayloads t (tree.byte a x r) (tree.byte b y s)) text rest
  bytes_begin a b x y r s e two =
      byte_begins (λ t. ProvesPayloads t x y) (λ t. ProvesTails t r s) (λ t. ProvesPayloads t (tree.byte a x r) (tree.byte b y s)) two e (λ p q h k. (h, k))

  pub reads_begin : (a b : Address) (c d : Count) (x y r s : TailTree) (between : List ℕ) → text ≡ 68 ∷ 32 ∷ inner → Begins below (λ t. ProvesReads t c d x y) inner between
      → BeginsSpaced below (λ t. ProvesTails t r s) between rest → Begins room (λ t. ProvesFrames t (tree.read a c x r) (tree.read b d y s)) text rest
  reads_begin a b c d x y r s between e first second =
      read_begins (λ t. ProvesReads t c d x y) (λ t. ProvesTails t r s) (λ t. ProvesFrames t (tree.read a c x r) (tree.read b d y s)) (between, first, second) e (λ p q h k. (h, k))

  pub agains_begin : (f g : FrameTree) → text ≡ 83 ∷ 32 ∷ inner → Begins below (λ t. ProvesFrames t f g) inner rest → Begins room (λ t. ProvesTails t (tree.again f) (tree.again g)) text rest
  agains_begin f g e b = one_begins (λ t. ProvesFrames t f g) (λ t. ProvesTails t (tree.again f) (tree.again g)) e b (λ p h. h)

-- ---- a line

pub line_begins : (plan : Contents) (i size : ℕ) (P : ProofTree → Type 0) (text end rest : List ℕ) → size ≡ length text - length rest → end ≡ 10 ∷ rest → ((t : ProofTree) → P t → ProvesPair plan i t) → Begins 512 P text end
    → IsProvedLine plan i size text
line_begins plan i size P text end rest e f so b =
    let line = proof_line b.tree in
    let whole : text ≡ line ++ rest = b.text_is ∙ ap (λ (t : List ℕ). proof_text b.tree ++ t) f ∙ sym (append_assoc (proof_text b.tree) (10 ∷ []) rest) in
    let len : length text ≡ length line + length rest = ap length whole ∙ length-append line rest in
    let last = length-append (proof_text b.tree) (10 ∷ []) in
    let size_is : size ≡ length line = omega (arith, len, e) in
    record {
      some = omega (arith, size_is, last);
      within = omega (arith, len, size_is);
      proved = (
        b.tree,
        record {
          printable = b.printable;
          text_is = ap (λ (n : ℕ). take n text) size_is ∙ ap (take (length line)) whole ∙ take-append_seam line rest;
        },
        so b.tree b.proves,
      );
    }
