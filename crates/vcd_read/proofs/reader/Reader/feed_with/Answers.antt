use Rattle.std.proofs.Common.{◌++◌, Err, ap, sym, ◌∙◌, refl, inl, inr}
use Rattle.std.proofs.lemmas.Result.{err_from_is_err_and}
use Rattle.vcd_read.specs.Pieces.{kept_of, bytes_read}
use Rattle.vcd_read.specs.Readers.{reading_of}
use Rattle.vcd_read.proofs.FedLemmas.{scan_of_going, scan_of_refused, going_from_scan, refused_from_scan, scan_more, scan_refused, scan_still_refused, said_going, said_refused, is_refusal}
use Rattle.vcd_read.proofs.reader.Reader.feed_with.Goals as goal

pub returns-in-Some-clause-fed : goal.returns-in-Some-clause-fed
returns-in-Some-clause-fed g c = λ scl sda text cleared fed.
    inr (refused_from_scan scl sda _ cleared _ c.in-Some.refusal c.in-Some.is
    (scan_still_refused scl sda text c.args.piece.now _ (scan_of_refused scl sda text cleared (reading_of c.args.self.now) c.in-Some.refusal c.in-Some.is fed)))

pub returns-in-Some-clause-told : goal.returns-in-Some-clause-told
returns-in-Some-clause-told g c = λ scl sda text cleared fed.
    inr (is_refusal _ c.in-Some.refusal _ (said_refused scl sda (text ++ c.args.piece.now) _
    (scan_still_refused scl sda text c.args.piece.now _ (scan_of_refused scl sda text cleared (reading_of c.args.self.now) c.in-Some.refusal c.in-Some.is fed))) c.from.ensures)

pub returns-in-Some-clause-again : goal.returns-in-Some-clause-again
returns-in-Some-clause-again g c = λ scl sda text cleared fed.
    rw (said_refused scl sda text _ (scan_of_refused scl sda text cleared (reading_of c.args.self.now) c.in-Some.refusal c.in-Some.is fed)) (ap Err c.from.ensures)

pub returns-in_err-reserve-clause-again : goal.returns-in_err-reserve-clause-again
returns-in_err-reserve-clause-again g c = λ scl sda text cleared fed.
    rw (said_going scl sda text cleared (kept_of c.args.self.now.scanner) (scan_of_going scl sda text cleared (reading_of c.args.self.now) c.in_default.is fed)) tt

pub returns-in_err-reserve-clause-fed : goal.returns-in_err-reserve-clause-fed
returns-in_err-reserve-clause-fed g c = λ scl sda text cleared fed.
    let p = err_from_is_err_and c.from_residual.result c.from_residual.ensures.1 in
    rw p.1 (inl p.2)

pub returns-in-Err-clause-fed : goal.returns-in-Err-clause-fed
returns-in-Err-clause-fed g c = λ scl sda text cleared fed.
    inr (refused_from_scan scl sda _ cleared _ c.in-Err.refusal refl
    (scan_refused scl sda text c.args.piece.now cleared (kept_of c.args.self.now.scanner) _
    (scan_of_going scl sda text cleared (reading_of c.args.self.now) c.in_default.is fed)
    (ap (λ k. bytes_read k c.args.piece.now) (sym c.in_ok-reserve.ensures.kept) ∙ c.in-Err.ensures.kept)))

pub returns-in-Err-clause-told : goal.returns-in-Err-clause-told
returns-in-Err-clause-told g c = λ scl sda text cleared fed.
    inr (is_refusal _ c.in-Err.refusal _ (said_refused scl sda (text ++ c.args.piece.now) _
    (scan_refused scl sda text c.args.piece.now cleared (kept_of c.args.self.now.scanner) _
    (scan_of_going scl sda text cleared (reading_of c.args.self.now) c.in_default.is fed)
    (ap (λ k. bytes_read k c.args.piece.now) (sym c.in_ok-reserve.ensures.kept) ∙ c.in-Err.ensures.kept))) c.from-in-Err.ensures)

pub returns-in-Err-clause-again : goal.returns-in-Err-clause-again
returns-in-Err-clause-again g c = λ scl sda text cleared fed.
    rw (said_going scl sda text cleared (kept_of c.args.self.now.scanner) (scan_of_going scl sda text cleared (reading_of c.args.self.now) c.in_default.is fed)) tt

pub returns-in-Ok-clause-fed : goal.returns-in-Ok-clause-fed
returns-in-Ok-clause-fed g c = λ scl sda text cleared fed.
    going_from_scan scl sda _ cleared _ c.in_default.is
    (scan_more scl sda text c.args.piece.now cleared (kept_of c.args.self.now.scanner) (kept_of c.read.new.scanner)
    (scan_of_going scl sda text cleared (reading_of c.args.self.now) c.in_default.is fed)
    (ap (λ k. bytes_read k c.args.piece.now) (sym c.in_ok-reserve.ensures.kept) ∙ c.in-Ok.ensures.kept))

pub returns-in-Ok-clause-told : goal.returns-in-Ok-clause-told
returns-in-Ok-clause-told g c = λ scl sda text cleared fed.
    rw (said_going scl sda (text ++ c.args.piece.now) cleared (kept_of c.read.new.scanner)
    (scan_more scl sda text c.args.piece.now cleared (kept_of c.args.self.now.scanner) (kept_of c.read.new.scanner)
    (scan_of_going scl sda text cleared (reading_of c.args.self.now) c.in_default.is fed)
    (ap (λ k. bytes_read k c.args.piece.now) (sym c.in_ok-reserve.ensures.kept) ∙ c.in-Ok.ensures.kept))) tt

pub returns-in-Ok-clause-again : goal.returns-in-Ok-clause-again
returns-in-Ok-clause-again g c = λ scl sda text cleared fed.
    rw (said_going scl sda text cleared (kept_of c.args.self.now.scanner) (scan_of_going scl sda text cleared (reading_of c.args.self.now) c.in_default.is fed)) tt
