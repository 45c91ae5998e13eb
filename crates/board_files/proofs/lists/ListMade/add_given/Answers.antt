use Rattle.std.proofs.Common.{◌≡◌, ◌∷◌, ◌++◌, [], true, false, subst}
use Rattle.board_files.specs.Files.{is_known}
use Rattle.board_files.specs.Given.{listed}
use Rattle.board_files.specs.Lists as spec
use Rattle.board_files.specs.Progress.{stood, added}
use Rattle.board_files.proofs.AddedLemmas.{nothing_added, map_added}
use Rattle.board_files.proofs.lists.ListMade.add_given.Goals as goal

pub returns-then-is_known-clause-added : goal.returns-then-is_known-clause-added
returns-then-is_known-clause-added g c =
    let k = c.is_known.ensures in
    let v = c.as_slice.ensures.value in
    let h = c.if-is_known.true in
    let is : is_known c.args.text.id c.args.self.now.known.items ≡ true = cc in
    nothing_added _ c.args.self.now (stood is)

pub returns-in-Ok-clause-added : goal.returns-in-Ok-clause-added
returns-in-Ok-clause-added g c =
    let k = c.is_known.ensures in
    let v = c.as_slice.ensures.value in
    let h = c.if-is_known.false in
    let new : is_known c.args.text.id c.args.self.now.known.items ≡ false = cc in
    map_added _ _ c.args.self.now c.add_text.new.self (λ texts ids it.
    added new (subst (λ folder. spec.AddsText g.O.Opener.files (listed c.args.text.listed) folder (c.args.self.now.known.items ++ c.args.text.id ∷ []) c.args.opener.now texts ids c.add_text.new.opener) c.as_slice-2.ensures.value it))
    c.in-Ok.ensures.added
