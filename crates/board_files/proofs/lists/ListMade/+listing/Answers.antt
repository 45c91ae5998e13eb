use Rattle.std.proofs.Common.{◌≡◌, ◌≤◌, ◌<◌, ◌++◌, ◌∷◌, [], length, length-append, true, false, sym, subst, ◌∙◌, arith, ap, refl}
use Rattle.brief_tokens.specs.Reading.{left}
use Rattle.board_files.specs.Files.{is_known}
use Rattle.board_files.specs.Given.{listed}
use Rattle.board_files.specs.Lists as spec
use Rattle.board_files.specs.Progress.{Added, named, Passing}
use Rattle.board_files.proofs.AddedLemmas.{at_unopened, at_too_many, at_not_given, stops_inside, passes, reads, passing_all, map_stopped, map_inside, map_added, nothing_added, text_added, named_none, named_some, head_some, head_none, passing_one}
use Rattle.board_files.proofs.lists.ListMade.+listing.Goals as goal

pub add_file-returns-in-Err-clause-stops : goal.add_file-returns-in-Err-clause-stops
add_file-returns-in-Err-clause-stops g t c =
    at_unopened g.O.Opener.files (listed c.args.text.now) c.args.file.line c.as_slice.result.now c.in_ok-path.path.items _ c.args.self.now.known.items c.args.opener.now c.open.new.self c.in-Err.error c.as_slice.ensures.value c.in_ok-path.ensures c.in-Err.ensures

pub add_file-returns-then-is_known-clause-added : goal.add_file-returns-then-is_known-clause-added
add_file-returns-then-is_known-clause-added g t c =
    let k = c.is_known.ensures in
    let v = c.as_slice-2.ensures.value in
    let h = c.if-is_known.true in
    let is : is_known c.in-Ok.id c.args.self.now.known.items ≡ true = cc in
    passes g.O.Opener.files c.as_slice.result.now c.in_ok-path.path.items _ c.in-Ok.id c.args.self.now c.args.opener.now c.open.new.self c.as_slice.ensures.value c.in_ok-path.ensures c.in-Ok.ensures is

pub add_file-returns-then-len-gt-MOST_BEFORE-clause-stops : goal.add_file-returns-then-len-gt-MOST_BEFORE-clause-stops
add_file-returns-then-len-gt-MOST_BEFORE-clause-stops g t c =
    let k = c.is_known.ensures in
    let v = c.as_slice-2.ensures.value in
    let h = c.if-is_known.false in
    let new : is_known c.in-Ok.id c.args.self.now.known.items ≡ false = cc in
    let n = c.len.ensures in
    let m = c.if-len-gt-MOST_BEFORE.true in
    let many : spec.most_before < length c.args.self.now.known.items = omega (arith, n, m) in
    at_too_many g.O.Opener.files (listed c.args.text.now) c.args.file.line c.as_slice.result.now c.in_ok-path.path.items _ c.in-Ok.id c.args.self.now.known.items c.args.opener.now c.open.new.self c.args.too_many.error c.as_slice.ensures.value c.in_ok-path.ensures c.in-Ok.ensures new many c.requires

pub add_file-returns-in-Ok-add_opened-clause-added : goal.add_file-returns-in-Ok-add_opened-clause-added
add_file-returns-in-Ok-add_opened-clause-added g t c =
    let k = c.is_known.ensures in
    let v = c.as_slice-2.ensures.value in
    let h = c.if-is_known.false in
    let new : is_known c.in-Ok.id c.args.self.now.known.items ≡ false = cc in
    let n = c.len.ensures in
    let m = c.if-len-gt-MOST_BEFORE.false in
    let room : length c.args.self.now.known.items ≤ spec.most_before = omega (arith, n, m) in
    reads g.O.Opener.files c.as_slice.result.now c.in_ok-path.path.items _ c.in-Ok-give.bytes.items c.in-Ok.id c.args.self.now c.add_opened.new.self c.args.opener.now c.open.new.self c.give.new.self c.add_opened.new.opener c.as_slice.ensures.value c.in_ok-path.ensures c.in-Ok.ensures new room c.in-Ok-give.ensures c.in-Ok-add_opened.ensures.added

pub add_file-returns-in-Err-add_opened-clause-stops : goal.add_file-returns-in-Err-add_opened-clause-stops
add_file-returns-in-Err-add_opened-clause-stops g t c =
    let k = c.is_known.ensures in
    let v = c.as_slice-2.ensures.value in
    let h = c.if-is_known.false in
    let new : is_known c.in-Ok.id c.args.self.now.known.items ≡ false = cc in
    let n = c.len.ensures in
    let m = c.if-len-gt-MOST_BEFORE.false in
    let room : length c.args.self.now.known.items ≤ spec.most_before = omega (arith, n, m) in
    map_stopped c.in-Err-add_opened.stopped _ _
    (stops_inside g.O.Opener.files (listed c.args.text.now) c.args.file.line c.as_slice.result.now c.in_ok-path.path.items _ c.in-Ok-give.bytes.items c.in-Ok.id c.args.self.now.known.items c.args.opener.now c.open.new.self c.give.new.self c.add_opened.new.opener c.as_slice.ensures.value c.in_ok-path.ensures c.in-Ok.ensures new room c.in-Ok-give.ensures)
    c.in-Err-add_opened.ensures.stops

pub add_file-returns-in-Err-give-clause-stops : goal.add_file-returns-in-Err-give-clause-stops
add_file-returns-in-Err-give-clause-stops g t c =
    let k = c.is_known.ensures in
    let v = c.as_slice-2.ensures.value in
    let h = c.if-is_known.false in
    let new : is_known c.in-Ok.id c.args.self.now.known.items ≡ false = cc in
    let n = c.len.ensures in
    let m = c.if-len-gt-MOST_BEFORE.false in
    let room : length c.args.self.now.known.items ≤ spec.most_before = omega (arith, n, m) in
    at_not_given g.O.Opener.files (listed c.args.text.now) c.args.file.line c.as_slice.result.now c.in_ok-path.path.items _ c.in-Ok.id c.args.self.now.known.items c.args.opener.now c.open.new.self c.give.new.self c.in-Err-give.error c.as_slice.ensures.value c.in_ok-path.ensures c.in-Ok.ensures new room c.in-Err-give.ensures

pub add_files-returns-in-Ok-None-clause-added : goal.add_files-returns-in-Ok-None-clause-added
add_files-returns-in-Ok-None-clause-added g t c =
    passing_all g.O.Opener.files c.args.folder.now _ _ _ c.args.self.now c.loop-file.self c.args.opener.now c.loop-file.opener c.loop-file.invariant (let f = c.in-Ok-None.field-0-is in named_none c.in-Ok-None.field-0 (left c.loop-file.tokens) (left c.next_file.new.self) c.in-Ok-None.ensures.file cc)

pub add_files-returns-in-Err-clause-stops : goal.add_files-returns-in-Err-clause-stops
add_files-returns-in-Err-clause-stops g t c = c.loop-file.invariant.past.stops _ _ _ (spec.no_name c.in-Err.ensures.refused)

pub add_files-returns-in-Err-add_file-clause-stops : goal.add_files-returns-in-Err-add_file-clause-stops
add_files-returns-in-Err-add_file-clause-stops g t c =
    map_inside (listed c.args.text.now) c.in-Err-add_file.inside _ _
    (λ stop h. c.loop-file.invariant.past.stops _ _ _ (spec.at_file (let f = c.in-Ok-Some.field-0-is in named_some c.in-Ok-Some.field-0 c.in-Ok-Some.file (left c.loop-file.tokens) (left c.next_file.new.self) c.in-Ok-Some.ensures.file cc) h))
    c.in-Err-add_file.ensures.stops

pub add_files-returns-in-Err-end_file-clause-stops : goal.add_files-returns-in-Err-end_file-clause-stops
add_files-returns-in-Err-end_file-clause-stops g t c =
    let it = c.in_default.ensures.added in
    c.loop-file.invariant.past.stops _ _ _ (spec.no_end (let f = c.in-Ok-Some.field-0-is in named_some c.in-Ok-Some.field-0 c.in-Ok-Some.file (left c.loop-file.tokens) (left c.next_file.new.self) c.in-Ok-Some.ensures.file cc) it.holds c.in-Err-end_file.ensures.refused)

pub add_files-loop-file-preserved : goal.add_files-loop-file-preserved
add_files-loop-file-preserved g t c =
    passing_one g.O.Opener.files c.args.folder.now c.in-Ok-Some.file.name.now c.in-Ok-Some.file.line (left c.args.tokens) (left c.loop-file.tokens) (left c.next_file.new.self) (left c.end_file.new.self) c.args.self.now c.loop-file.self c.add_file.new.self c.args.opener.now c.loop-file.opener c.add_file.new.opener c.loop-file.invariant (let f = c.in-Ok-Some.field-0-is in named_some c.in-Ok-Some.field-0 c.in-Ok-Some.file (left c.loop-file.tokens) (left c.next_file.new.self) c.in-Ok-Some.ensures.file cc) c.in_default.ensures.added c.in_default-end_file.ensures.rest

pub add_head-returns-in-Ok-clause-added : goal.add_head-returns-in-Ok-clause-added
add_head-returns-in-Ok-clause-added g t c =
    map_added _ _ c.args.self.now c.add_files.new.self
    (λ texts ids h. named (head_some c.as_slice.result.now c.args.text.now.text.items c.in-Ok-Some.field-0 c.in-Ok-Some.tokens c.in-Ok-Some.ensures.some c.as_slice.ensures.value c.in-Ok-Some.field-0-is) h)
    c.in-Ok.ensures.added

pub add_head-returns-in-Err-add_files-clause-stops : goal.add_head-returns-in-Err-add_files-clause-stops
add_head-returns-in-Err-add_files-clause-stops g t c =
    map_inside (listed c.args.text.now) c.in-Err-add_files.inside _ _
    (λ stop h. spec.in_head (head_some c.as_slice.result.now c.args.text.now.text.items c.in-Ok-Some.field-0 c.in-Ok-Some.tokens c.in-Ok-Some.ensures.some c.as_slice.ensures.value c.in-Ok-Some.field-0-is) h)
    c.in-Err-add_files.ensures.stops

pub add_head-returns-in-Ok-None-clause-added : goal.add_head-returns-in-Ok-None-clause-added
add_head-returns-in-Ok-None-clause-added g t c =
    nothing_added _ c.args.self.now
    (named (head_none c.as_slice.result.now c.args.text.now.text.items c.in-Ok-None.field-0 c.in-Ok-None.ensures.some c.as_slice.ensures.value c.in-Ok-None.field-0-is) (spec.no_file refl))

pub add_head-returns-in-Err-clause-stops : goal.add_head-returns-in-Err-clause-stops
add_head-returns-in-Err-clause-stops g t c = spec.no_head (sym (ap spec.files_of c.as_slice.ensures.value) ∙ c.in-Err.ensures.refused)

pub add_text-returns-in-Ok-push-clause-added : goal.add_text-returns-in-Ok-push-clause-added
add_text-returns-in-Ok-push-clause-added g t c =
    let e = c.in_ok-push.ensures in
    let n = ap length e in
    let m = length-append c.args.self.now.known.items (c.args.id ∷ []) in
    let more : length c.args.self.now.known.items ≤ length c.push.new.all.items = omega (arith, n, m) in
    subst
    (λ k. Added (λ texts ids. spec.AddsText g.O.Opener.files (listed c.args.text) c.args.folder.now k c.args.opener.now texts ids c.add_head.new.opener) c.args.self.now (record { alloc = c.add_head.new.self.alloc; texts = c.push-in-Ok.new.all; known = c.add_head.new.self.known }))
    e
    (text_added g.O.Opener.files c.args.text c.args.folder.now c.push.new.all.items c.args.opener.now c.add_head.new.opener c.args.self.now (record { alloc = c.args.self.now.alloc; texts = c.args.self.now.texts; known = c.push.new.all }) c.add_head.new.self (record { alloc = c.add_head.new.self.alloc; texts = c.push-in-Ok.new.all; known = c.add_head.new.self.known }) refl more refl c.in-Ok-push.ensures refl c.in-Ok.ensures.added)
