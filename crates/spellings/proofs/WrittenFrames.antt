-- The frames of a brief that is written mean the message that they are written for, and need no name and no range.
use Rattle.std.proofs.Common.{◌≡◌, ℕ, zero, suc, ◌+◌, ◌++◌, List, [], Bool, true, false, Option, Some, None, refl, ap, sym, ◌∙◌, arith}
use Rattle.std.specs.Prelude.{◌==◌, nat_lt, map, if◌then◌else◌}
use Rattle.std.proofs.lemmas.Bool.{and_parts, eqb-true}
use Rattle.message_tree.specs.Bits.{bits_below}
use Rattle.message_tree.specs.Patterns.{pattern_bits}
use Rattle.message_tree.specs.Trees.{FrameTree, write, read, PayloadTree, last, TailTree, stop, again}
use Rattle.message_tree.specs.Trees as trees
use Rattle.message_tree.specs.declared.bits.Pattern.{Pattern}
use Rattle.plan_text.specs.Symbols.{bit_symbol, pattern_word}
use Rattle.plan_text.proofs.ValueLemmas.{pattern_found}
use Rattle.brief_text.specs.Codes.{unknown, after_bits}
use Rattle.brief_text.specs.Drafts.{Draft, frame_on, bytes_on, tail_on, frame_groups, bytes_groups, tail_groups, repeated, repeated_on, after_header}
use Rattle.brief_text.specs.Fitting.{KnowsFrame, KnowsBytes, KnowsTail, frame_ranges, bytes_ranges, tail_ranges}
use Rattle.brief_text.specs.Trees.{spelled, times, BriefBytes, data_byte, no_more, stop_here, go_on}
use Rattle.spellings.specs.Writing.{Run, same_pattern, goes_on, ended_by, with_byte, after_run, frame_brief, bytes_brief, tail_brief}

-- ---- runs

pub pattern_is : (p q : Pattern) → same_pattern p q ≡ true → p ≡ q
unfolding pattern_bits
pattern_is p q e =
    let parts = and_parts (p.known == q.known) (p.value == q.value) e in
    let known = eqb-true p.known q.known parts.0 in
    let value = eqb-true p.value q.value parts.1 in
    let words : pattern_word q ≡ pattern_word p = λ i. map bit_symbol (bits_below 8 (sym known i) (sym value i)) in
    let both : Some p ≡ Some q = sym (pattern_found (pattern_word p) p refl) ∙ pattern_found (pattern_word p) q words in
    cc

-- a run of a byte, and this byte after it
one_more : (n : ℕ) (bits : Pattern) (acked : PayloadTree) (refused : TailTree) → repeated (n + 1) bits acked refused ≡ repeated n bits (trees.byte bits acked refused) refused
one_more zero bits acked refused = refl
one_more (suc n) bits acked refused =
    let next : suc n + 1 ≡ suc (n + 1) = omega arith in
    ap (λ k. repeated k bits acked refused) next ∙ ap (λ p. trees.byte bits p refused) (one_more n bits acked refused)

-- a payload after a run
abbrev in_run : Option Run → PayloadTree → PayloadTree
in_run None p = p
in_run (Some run) p = repeated run.1 run.0 p stop

-- so many copies, where nothing depends on the path up to them
copies : (k : ℕ) (bits : Pattern) (acked : _ → PayloadTree) (refused : _ → TailTree) (a : PayloadTree) (r : TailTree) → ((path : _) → acked path ≡ a) → ((path : _) → refused path ≡ r)
    → (path : _) → repeated_on k bits acked refused path ≡ repeated k bits a r
copies zero bits acked refused a r first others path = first path
copies (suc k) bits acked refused a r first others path =
    let next = after_bits path bits in
    λ i. trees.byte bits (copies k bits acked refused a r first others next i) (others next i)

-- a byte that goes on with the run, or ends it
run_goes : (run : Option Run) (bits : Pattern) (acked : PayloadTree) → in_run (ended_by run bits) (in_run (Some (with_byte run bits)) acked) ≡ in_run run (trees.byte bits acked stop)
run_goes None bits acked = refl
run_goes (Some run) bits acked = by_test (goes_on run bits) refl
  where
    by_test : (t : Bool) → goes_on run bits ≡ t → in_run (if t then None else Some run) (repeated (if t then run.1 + 1 else 1) bits acked stop) ≡ repeated run.1 run.0 (trees.byte bits acked stop) stop
    by_test true is =
        let same = pattern_is run.0 bits (and_parts (same_pattern run.0 bits) (nat_lt run.1 255) is).0 in
        one_more run.1 bits acked stop ∙ ap (λ b. repeated run.1 b (trees.byte bits acked stop) stop) (sym same)
    by_test false is = refl

-- no byte follows from others: it is the same on every path
module _ (draft : Draft) (n : ℕ) where
  run_meant : (run : Option Run) (b : BriefBytes) (p : PayloadTree) → ((path : _) → bytes_on draft n b path ≡ p) → (path : _) → bytes_on draft n (after_run run b) path ≡ in_run run p
  run_meant None b p same path = same path
  run_meant (Some run) b p same path = copies run.1 run.0 (bytes_on draft n b) (tail_on draft n stop_here) p stop same (λ q. refl) path

  mutual
    pub frame_said : (f : FrameTree) (path : _) → frame_on draft n (frame_brief f) path ≡ f
    frame_said (write address acked refused) path =
        let next = after_header draft false (spelled address) path in
        λ i. write address (bytes_said acked None next i) (tail_said refused next i)
    frame_said (read address count after refused) path =
        let next = after_header draft true (spelled address) path in
        λ i. read address count (tail_said after unknown i) (tail_said refused next i)

    bytes_said : (p : PayloadTree) (run : Option Run) (path : _) → bytes_on draft n (bytes_brief p run) path ≡ in_run run p
    bytes_said (trees.byte bits acked stop) run path =
        let longer : Option Run = Some (with_byte run bits) in
        run_meant (ended_by run bits) (bytes_brief acked longer) (in_run longer acked) (λ q. bytes_said acked longer q) path
        ∙ run_goes run bits acked
    bytes_said (trees.byte bits acked (again frame)) run path =
        run_meant run (data_byte (spelled bits) (times 1) (go_on (frame_brief frame)) (bytes_brief acked None)) (trees.byte bits acked (again frame))
        (λ q i. trees.byte bits (bytes_said acked None (after_bits q bits) i) (again (frame_said frame (after_bits q bits) i))) path
    bytes_said (last tail) run path = run_meant run (no_more (tail_brief tail)) (last tail) (λ q i. last (tail_said tail q i)) path

    tail_said : (t : TailTree) (path : _) → tail_on draft n (tail_brief t) path ≡ t
    tail_said stop path = refl
    tail_said (again frame) path = λ i. again (frame_said frame path i)

-- every value is spelled out
module _ (draft : Draft) where
  run_knows : (run : Option Run) (b : BriefBytes) → KnowsBytes draft b → KnowsBytes draft (after_run run b)
  run_knows None b known = known
  run_knows (Some run) b known = (refl, tt, known)

  mutual
    pub frame_known : (f : FrameTree) → KnowsFrame draft (frame_brief f)
    frame_known (write address acked refused) = (refl, tail_known refused, bytes_known acked None)
    frame_known (read address count after refused) = (refl, tail_known refused, tail_known after)

    bytes_known : (p : PayloadTree) (run : Option Run) → KnowsBytes draft (bytes_brief p run)
    bytes_known (trees.byte bits acked stop) run =
        run_knows (ended_by run bits) (bytes_brief acked (Some (with_byte run bits))) (bytes_known acked (Some (with_byte run bits)))
    bytes_known (trees.byte bits acked (again frame)) run =
        run_knows run (data_byte (spelled bits) (times 1) (go_on (frame_brief frame)) (bytes_brief acked None)) (refl, frame_known frame, bytes_known acked None)
    bytes_known (last tail) run = run_knows run (no_more (tail_brief tail)) (tail_known tail)

    tail_known : (t : TailTree) → KnowsTail draft (tail_brief t)
    tail_known stop = tt
    tail_known (again frame) = frame_known frame

-- no name, so no group
module _ (draft : Draft) where
  run_plain : (run : Option Run) (b : BriefBytes) → bytes_groups draft b ≡ [] → bytes_groups draft (after_run run b) ≡ []
  run_plain None b none = none
  run_plain (Some run) b none = none

  both_plain : (xs ys : List (List ℕ)) → xs ≡ [] → ys ≡ [] → xs ++ ys ≡ []
  both_plain xs ys e f = ap (λ zs. zs ++ ys) e ∙ f

  mutual
    pub frame_plain : (f : FrameTree) → frame_groups draft (frame_brief f) ≡ []
    frame_plain (write address acked refused) = both_plain (tail_groups draft (tail_brief refused)) (bytes_groups draft (bytes_brief acked None)) (tail_plain refused) (bytes_plain acked None)
    frame_plain (read address count after refused) = both_plain (tail_groups draft (tail_brief refused)) (tail_groups draft (tail_brief after)) (tail_plain refused) (tail_plain after)

    bytes_plain : (p : PayloadTree) (run : Option Run) → bytes_groups draft (bytes_brief p run) ≡ []
    bytes_plain (trees.byte bits acked stop) run =
        run_plain (ended_by run bits) (bytes_brief acked (Some (with_byte run bits))) (bytes_plain acked (Some (with_byte run bits)))
    bytes_plain (trees.byte bits acked (again frame)) run =
        run_plain run (data_byte (spelled bits) (times 1) (go_on (frame_brief frame)) (bytes_brief acked None))
        (both_plain (frame_groups draft (frame_brief frame)) (bytes_groups draft (bytes_brief acked None)) (frame_plain frame) (bytes_plain acked None))
    bytes_plain (last tail) run = run_plain run (no_more (tail_brief tail)) (tail_plain tail)

    tail_plain : (t : TailTree) → tail_groups draft (tail_brief t) ≡ []
    tail_plain stop = refl
    tail_plain (again frame) = frame_plain frame

-- no byte has a range
run_free : (run : Option Run) (b : BriefBytes) → bytes_ranges b ≡ 0 → bytes_ranges (after_run run b) ≡ 0
run_free None b none = none
run_free (Some run) b none = omega (arith, none)

mutual
  pub frame_free : (f : FrameTree) → frame_ranges (frame_brief f) ≡ 0
  frame_free (write address acked refused) = let a = bytes_free acked None in let r = tail_free refused in omega (arith, a, r)
  frame_free (read address count after refused) = let a = tail_free after in let r = tail_free refused in omega (arith, a, r)

  bytes_free : (p : PayloadTree) (run : Option Run) → bytes_ranges (bytes_brief p run) ≡ 0
  bytes_free (trees.byte bits acked stop) run =
      run_free (ended_by run bits) (bytes_brief acked (Some (with_byte run bits))) (bytes_free acked (Some (with_byte run bits)))
  bytes_free (trees.byte bits acked (again frame)) run =
      let f = frame_free frame in
      let a = bytes_free acked None in
      run_free run (data_byte (spelled bits) (times 1) (go_on (frame_brief frame)) (bytes_brief acked None)) (omega (arith, f, a))
  bytes_free (last tail) run = run_free run (no_more (tail_brief tail)) (tail_free tail)

  tail_free : (t : TailTree) → tail_ranges (tail_brief t) ≡ 0
  tail_free stop = refl
  tail_free (again frame) = frame_free frame
