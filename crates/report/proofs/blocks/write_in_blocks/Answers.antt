use Rattle.std.proofs.Common.{◌≡◌, ◌++◌, ◌+◌, ℕ, List, [], drop, refl, sym, ap, ◌∙◌, subst, append-nil, arith}
use Rattle.std.proofs.lemmas.List.{drop_all}
use Rattle.verdicts.specs.Texts.{lines_after_head, text_of, joined}
use Rattle.verdicts.proofs.ProofLines.{rest_at}
use Rattle.run_parts.specs.Devices.{by_parts}
use Rattle.run_parts.specs.Writing.{WritesAll, WritingStops}
use Rattle.run_parts.specs.declared.errors.RunError.{RunError}
use Rattle.run_parts.proofs.RunLemmas.{on_error}
use Rattle.decoding.specs.Parts.{IsLeft}
use Rattle.decoding.proofs.PartLemmas.{part_written, part_stops, none_left}
use Rattle.report.proofs.BlockLemmas.{first_left, on_ok, if_err}
use Rattle.report.proofs.blocks.write_in_blocks.Goals as goal

pub loop-k-init : goal.loop-k-init
loop-k-init g c =
    let it = c.args.text.now in
    c.in_ok-put.ensures.put c.args.out.now (text_of it) (joined (lines_after_head it)) (first_left g.O.Output.writer c.args.out.now (text_of it) c.args.block.now.items it.head.items c.head.result.now (joined (lines_after_head it)) refl c.requires c.head.ensures)

pub loop-k-preserved : goal.loop-k-preserved
loop-k-preserved g c =
    let it = c.args.text.now in
    let lines = lines_after_head it in
    let rest = joined (drop (c.loop-k.k + 1) lines) in
    let next : joined (drop c.loop-k.k lines) ≡ c.line.result.now ++ rest = ap joined (rest_at lines c.loop-k.k c.line.result.now c.line.ensures) in
    c.in_ok-put-2.ensures.put c.args.out.now (text_of it) rest (subst (λ (cs : List ℕ). IsLeft g.O.Output.writer c.args.out.now (text_of it) (c.loop-k.block.items ++ cs) c.loop-k.out) next c.loop-k.invariant)

pub returns-in_err-put-clause-stops : goal.returns-in_err-put-clause-stops
returns-in_err-put-clause-stops g c =
    let w = g.O.Output.writer in
    let it = c.args.text.now in
    let rest = joined (lines_after_head it) in
    on_error c.from_residual.result c.in_err-put.field-0.0 (λ e. WritingStops (by_parts w) c.args.out.now (text_of it) e c.put.new.out) c.from_residual.ensures.1 (c.in_err-put.ensures.stops c.args.out.now (text_of it) rest (first_left w c.args.out.now (text_of it) c.args.block.now.items it.head.items c.head.result.now rest refl c.requires c.head.ensures))

pub returns-in_err-put-2-clause-stops : goal.returns-in_err-put-2-clause-stops
returns-in_err-put-2-clause-stops g c =
    let w = g.O.Output.writer in
    let it = c.args.text.now in
    let lines = lines_after_head it in
    let rest = joined (drop (c.loop-k.k + 1) lines) in
    let next : joined (drop c.loop-k.k lines) ≡ c.line.result.now ++ rest = ap joined (rest_at lines c.loop-k.k c.line.result.now c.line.ensures) in
    on_error c.from_residual-in_err-put-2.result c.in_err-put-2.field-0.0 (λ e. WritingStops (by_parts w) c.args.out.now (text_of it) e c.put-in-loop-k.new.out) c.from_residual-in_err-put-2.ensures.1 (c.in_err-put-2.ensures.stops c.args.out.now (text_of it) rest (subst (λ (cs : List ℕ). IsLeft w c.args.out.now (text_of it) (c.loop-k.block.items ++ cs) c.loop-k.out) next c.loop-k.invariant))

pub returns-clause-all : goal.returns-clause-all
returns-clause-all g c =
    let w = g.O.Output.writer in
    let it = c.args.text.now in
    let none = drop_all c.loop-k.k (lines_after_head it) (omega (arith, c.loop-k-test.false, c.len-k-end.ensures)) in
    let last : c.loop-k.block.items ++ joined (drop c.loop-k.k (lines_after_head it)) ≡ c.as_slice.result.now ++ [] =
    ap (λ (ls : List (List ℕ)). c.loop-k.block.items ++ joined ls) none ∙ ap (λ (b : List ℕ). b ++ []) (sym c.as_slice.ensures.value) in
    let left = subst (λ (cs : List ℕ). IsLeft w c.args.out.now (text_of it) cs c.loop-k.out) last c.loop-k.invariant in
    on_ok c.write_report.result (λ all. none_left w c.args.out.now (text_of it) c.write_report.new.writer (part_written w c.args.out.now (text_of it) [] c.as_slice.result.now c.loop-k.out c.write_report.new.writer left all)) c.write_report.ensures.all

pub returns-clause-stops : goal.returns-clause-stops
returns-clause-stops g c =
    let w = g.O.Output.writer in
    let it = c.args.text.now in
    let none = drop_all c.loop-k.k (lines_after_head it) (omega (arith, c.loop-k-test.false, c.len-k-end.ensures)) in
    let last : c.loop-k.block.items ++ joined (drop c.loop-k.k (lines_after_head it)) ≡ c.as_slice.result.now ++ [] =
    ap (λ (ls : List (List ℕ)). c.loop-k.block.items ++ joined ls) none ∙ ap (λ (b : List ℕ). b ++ []) (sym c.as_slice.ensures.value) in
    let left = subst (λ (cs : List ℕ). IsLeft w c.args.out.now (text_of it) cs c.loop-k.out) last c.loop-k.invariant in
    if_err c.write_report.result (λ e. WritingStops w c.loop-k.out c.as_slice.result.now e c.write_report.new.writer) (λ e. WritingStops (by_parts w) c.args.out.now (text_of it) e c.write_report.new.writer) (λ e stopped. part_stops w c.args.out.now (text_of it) [] c.as_slice.result.now c.loop-k.out c.write_report.new.writer e left stopped) c.write_report.ensures.stops
