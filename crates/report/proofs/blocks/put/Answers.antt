use Rattle.std.proofs.Common.{◌≡◌, ◌++◌, ℕ, List, [], sym, ap, ◌∙◌, subst, append_assoc}
use Rattle.run_parts.specs.Devices.{by_parts}
use Rattle.run_parts.specs.Writing.{WritesAll, WritingStops}
use Rattle.run_parts.specs.declared.errors.RunError.{RunError}
use Rattle.run_parts.proofs.RunLemmas.{on_error}
use Rattle.decoding.specs.Parts.{IsLeft}
use Rattle.decoding.proofs.PartLemmas.{part_written, part_stops}
use Rattle.report.proofs.BlockLemmas.{on_ok, if_err}
use Rattle.report.proofs.blocks.put.Goals as goal

pub returns-in_err-write_report-clause-stops : goal.returns-in_err-write_report-clause-stops
returns-in_err-write_report-clause-stops g c =
    let w = g.O.Output.writer in
    let e = c.in_err-write_report.field-0.0 in
    let piece = c.args.piece.now in
    let held : c.as_slice.result.now ≡ c.args.block.now.items = c.as_slice.ensures.value ∙ c.if-has_taken.ensures in
    on_error c.from_residual.result e (λ error. (start : g.row.O.Denot) (text rest : List ℕ) → IsLeft w start text (c.args.block.now.items ++ (piece ++ rest)) c.args.out.now → WritingStops (by_parts w) start text error c.write_report.new.writer) c.from_residual.ensures.1
    (λ start text rest left. part_stops w start text (piece ++ rest) c.as_slice.result.now c.args.out.now c.write_report.new.writer e (subst (λ (b : List ℕ). IsLeft w start text (b ++ (piece ++ rest)) c.args.out.now) (sym held) left) c.in_err-write_report.ensures.stops)

pub returns-then-has_taken-2-clause-put : goal.returns-then-has_taken-2-clause-put
returns-then-has_taken-2-clause-put g c start text rest left =
    let w = g.O.Output.writer in
    let piece = c.args.piece.now in
    let held : c.as_slice.result.now ≡ c.args.block.now.items = c.as_slice.ensures.value ∙ c.if-has_taken.ensures in
    let after = part_written w start text (piece ++ rest) c.as_slice.result.now c.args.out.now c.write_report.new.writer (subst (λ (b : List ℕ). IsLeft w start text (b ++ (piece ++ rest)) c.args.out.now) (sym held) left) c.in_ok-write_report.ensures.all in
    let now : c.has_taken-2.new.block.items ≡ piece = c.if-has_taken-2.ensures ∙ ap (λ (b : List ℕ). b ++ piece) c.clear.ensures.items in
    subst (λ (b : List ℕ). IsLeft w start text (b ++ rest) c.write_report.new.writer) (sym now) after

pub returns-clause-put : goal.returns-clause-put
returns-clause-put g c =
    let w = g.O.Output.writer in
    let piece = c.args.piece.now in
    let held : c.as_slice.result.now ≡ c.args.block.now.items = c.as_slice.ensures.value ∙ c.if-has_taken.ensures in
    let none : c.has_taken-2.new.block.items ≡ [] = c.if-has_taken-2.ensures ∙ c.clear.ensures.items in
    on_ok c.write_report-2.result
    (λ all start text rest left.
    let after = part_written w start text (piece ++ rest) c.as_slice.result.now c.args.out.now c.write_report.new.writer (subst (λ (b : List ℕ). IsLeft w start text (b ++ (piece ++ rest)) c.args.out.now) (sym held) left) c.in_ok-write_report.ensures.all in
    subst (λ (b : List ℕ). IsLeft w start text (b ++ rest) c.write_report-2.new.writer) (sym none) (part_written w start text rest piece c.write_report.new.writer c.write_report-2.new.writer after all))
    c.write_report-2.ensures.all

pub returns-clause-stops : goal.returns-clause-stops
returns-clause-stops g c =
    let w = g.O.Output.writer in
    let piece = c.args.piece.now in
    let held : c.as_slice.result.now ≡ c.args.block.now.items = c.as_slice.ensures.value ∙ c.if-has_taken.ensures in
    if_err c.write_report-2.result (λ error. WritingStops w c.write_report.new.writer piece error c.write_report-2.new.writer)
    (λ error. (start : g.row.O.Denot) (text rest : List ℕ) → IsLeft w start text (c.args.block.now.items ++ (piece ++ rest)) c.args.out.now → WritingStops (by_parts w) start text error c.write_report-2.new.writer)
    (λ error stopped start text rest left.
    let after = part_written w start text (piece ++ rest) c.as_slice.result.now c.args.out.now c.write_report.new.writer (subst (λ (b : List ℕ). IsLeft w start text (b ++ (piece ++ rest)) c.args.out.now) (sym held) left) c.in_ok-write_report.ensures.all in
    part_stops w start text rest piece c.write_report.new.writer c.write_report-2.new.writer error after stopped)
    c.write_report-2.ensures.stops
