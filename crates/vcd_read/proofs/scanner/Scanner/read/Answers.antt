use Rattle.std.proofs.Common.{◌≡◌, ◌<◌, ◌≤◌, ◌+◌, ◌-◌, ◌^◌, ℕ, List, length, Err, ap, sym, ◌∙◌, subst, arith, rules}
use Rattle.std.proofs.lemmas.Nat.{and_le_l}
use Rattle.std.proofs.lemmas.Simd.{get_or-chunk}
use lib.Count.{count_trailing_zeros}
use Rattle.vcd_read.specs.Pieces.{kept_of, bytes_read}
use Rattle.vcd_read.specs.Tokens.{is_white}
use Rattle.vcd_read.proofs.MaskLemmas.{Marks, NextWhite, marks_at_first, next_white, marks_after, none_left}
use Rattle.vcd_read.proofs.ScanLemmas.{NoWhite, length-range, token_goes_on, token_refused, room_for_less, room_for_fewer}
use Rattle.vcd_read.proofs.scanner.Scanner.read.Goals as goal

pub loop-rest-init : goal.loop-rest-init
loop-rest-init g c =
    let piece = c.args.piece.now in
    record {
      start = omega (arith, c.loop-at.invariant.start);
      none = c.loop-at.invariant.none;
      marks = marks_at_first c.whites-rest.result piece c.loop-at.at c.loop-at.start c.loop-at.invariant.start
          (λ i within. c.whites-rest.ensures i within ∙ ap is_white (get_or-chunk c.loop-at.at 64 piece i 0 within));
      fits = omega arith;
      rest = c.loop-at.invariant.rest;
      token_room = c.loop-at.invariant.token_room;
      samples_room = c.loop-at.invariant.samples_room;
    }

-- the token that ends at the lowest bit
next : (piece : List ℕ) (at start rest : ℕ) → (rest ≡ 0 → ⊥) → rest < 2 ^ 64 → Marks rest piece at start → NoWhite piece start at → NextWhite piece at start (count_trailing_zeros 64 rest)
next piece at start rest some fits marks none = next_white rest piece at start (omega arith) fits marks none

pub slice_bounds-end_token-count : goal.slice_bounds-end_token-count
slice_bounds-end_token-count g c =
    (next c.args.piece.now c.loop-at.at c.loop-rest.start c.loop-rest.rest c.loop-rest-test.true c.loop-rest.invariant.fits c.loop-rest.invariant.marks c.loop-rest.invariant.none).order

pub slice_bounds-end_token-start : goal.slice_bounds-end_token-start
slice_bounds-end_token-start g c =
    let n = next c.args.piece.now c.loop-at.at c.loop-rest.start c.loop-rest.rest c.loop-rest-test.true c.loop-rest.invariant.fits c.loop-rest.invariant.marks c.loop-rest.invariant.none in
    let order : c.loop-rest.start ≤ c.loop-at.at + count_trailing_zeros 64 c.loop-rest.rest = n.order in
    let within : count_trailing_zeros 64 c.loop-rest.rest < 64 = n.within in
    search rules

pub returns-in_err-end_token-clause-kept : goal.returns-in_err-end_token-clause-kept
returns-in_err-end_token-clause-kept g c =
    let n = next c.args.piece.now c.loop-at.at c.loop-rest.start c.loop-rest.rest c.loop-rest-test.true c.loop-rest.invariant.fits c.loop-rest.invariant.marks c.loop-rest.invariant.none in
    let within : c.loop-at.at + count_trailing_zeros 64 c.loop-rest.rest < length c.args.piece.now = omega (arith, n.within) in
    let refused : bytes_read (kept_of c.args.self.now) c.args.piece.now ≡ Err (record { refusal = c.in_err-end_token.field-0.0; samples = c.end_token.new.self.samples.items }) =
    sym c.loop-rest.invariant.rest ∙ token_refused (kept_of c.loop-rest.self) _ c.args.piece.now c.loop-rest.start _ n.order within n.none_before n.is c.in_err-end_token.ensures.kept in
    search rules

pub returns-in_err-end_token-clause-samples_room : goal.returns-in_err-end_token-clause-samples_room
returns-in_err-end_token-clause-samples_room g c =
    let n = next c.args.piece.now c.loop-at.at c.loop-rest.start c.loop-rest.rest c.loop-rest-test.true c.loop-rest.invariant.fits c.loop-rest.invariant.marks c.loop-rest.invariant.none in
    c.end_token.ensures.samples_room 2 (room_for_fewer _ (length c.args.piece.now - c.loop-rest.start + 2) c.loop-rest.self (omega (arith, n.within, n.order)) c.loop-rest.invariant.samples_room)

pub loop-rest-preserved : goal.loop-rest-preserved
loop-rest-preserved g c =
    let piece = c.args.piece.now in
    let start = c.loop-rest.start in
    let white : ℕ = c.loop-at.at + count_trailing_zeros 64 c.loop-rest.rest in
    let some : 0 < c.loop-rest.rest = omega arith in
    let n = next_white c.loop-rest.rest piece c.loop-at.at start some c.loop-rest.invariant.fits c.loop-rest.invariant.marks c.loop-rest.invariant.none in
    let inside : white < length piece = omega (arith, n.within) in
    let size = length-range piece start white (omega arith) in
    record {
      start = omega (arith, n.within);
      none = λ i from to. absurd (omega arith);
      marks = marks_after c.loop-rest.rest piece c.loop-at.at start some c.loop-rest.invariant.fits c.loop-rest.invariant.marks n;
      fits = omega (arith, and_le_l c.loop-rest.rest (c.loop-rest.rest - 1), c.loop-rest.invariant.fits);
      rest = token_goes_on (kept_of c.loop-rest.self) (kept_of c.end_token.new.self) piece start white _ n.order inside n.none_before n.is c.in_ok-end_token.ensures.kept c.line_after-self.ensures
          ∙ c.loop-rest.invariant.rest;
      token_room = c.end_token.ensures.token_room (length piece - (white + 1)) (room_for_less _ (length piece - start) c.loop-rest.self (omega (arith, n.order)) c.loop-rest.invariant.token_room);
      samples_room = c.end_token.ensures.samples_room (length piece - (white + 1) + 2) (room_for_fewer _ (length piece - start + 2) c.loop-rest.self (omega (arith, n.order)) c.loop-rest.invariant.samples_room);
    }

pub loop-at-preserved : goal.loop-at-preserved
loop-at-preserved g c = record {
  start = c.loop-rest.invariant.start;
  at = omega arith;
  none = none_left c.args.piece.now c.loop-at.at c.loop-rest.start (subst (λ (rest : ℕ). Marks rest c.args.piece.now c.loop-at.at c.loop-rest.start) c.loop-rest-test.false c.loop-rest.invariant.marks) c.loop-rest.invariant.none;
  rest = c.loop-rest.invariant.rest;
  token_room = c.loop-rest.invariant.token_room;
  samples_room = c.loop-rest.invariant.samples_room;
}
