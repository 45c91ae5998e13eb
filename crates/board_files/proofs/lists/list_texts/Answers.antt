use Rattle.std.proofs.Common.{◌≡◌, ◌+◌, ◌++◌, ◌∷◌, [], length, drop, ap, sym, subst, ◌∙◌, arith}
use Rattle.std.proofs.lemmas.Iterator.Adapters.{YieldsList-from_vec}
use Rattle.std.proofs.lemmas.Iterator.Consumers.{YieldsList-turn, YieldsList-end}
use Rattle.std.proofs.lemmas.List.{length_push}
use Rattle.board_files.specs.Given.{given, all_given, listed, texts_listed, stop_of}
use Rattle.board_files.specs.Progress.{IsStopped, StopsGiven, PastGiven}
use Rattle.board_files.proofs.AddedLemmas.{map_over}
use Rattle.board_files.proofs.PastLemmas.{given_one, given_all, given_stops, one_given, none_given}
use Rattle.board_files.proofs.lists.list_texts.Goals as goal

pub loop-text-preserved : goal.loop-text-preserved
loop-text-preserved g c =
    let gives = c.into_iter-text-iterator.ensures.into_iter_gives in
    let y = YieldsList-from_vec {s = c.into_iter-text-iterator.result} c.args.given.items gives.0 (gives.1 ∙ c.args.given.ok.0) in
    let t = YieldsList-turn y c.loop-text.yielded c.loop-text.text-iterator c.loop-text.yielded_by c.next.result c.next.new.self c.in-Some.text c.in-Some.is c.next.ensures.steps in
    let files = g.O.Opener.files in
    let all = all_given c.args.given.items in
    let n = length c.loop-text.yielded in
    let one = one_given c.args.given.items n c.in-Some.text t.0 t.1 in
    let before = texts_listed c.loop-text.list.texts.items in
    let it = c.in-Ok.ensures.added in
    let p = subst (λ rest. PastGiven files all [] c.args.opener.now before rest c.loop-text.list.known.items c.loop-text.opener) one c.loop-text.invariant in
    let q = given_one files all (all_given (drop (n + 1) c.args.given.items)) (given c.in-Some.text) [] c.loop-text.list.known.items c.add_given-added.new.self.known.items c.args.opener.now c.loop-text.opener c.add_given-added.new.opener before (texts_listed it.texts) p it.holds in
    let r = subst (λ texts. PastGiven files all [] c.args.opener.now texts (all_given (drop (n + 1) c.args.given.items)) c.add_given-added.new.self.known.items c.add_given-added.new.opener)
    (sym (ap texts_listed it.kept ∙ map_over listed c.loop-text.list.texts.items it.texts)) q in
    subst (λ k. PastGiven files all [] c.args.opener.now (texts_listed c.add_given-added.new.self.texts.items) (all_given (drop k c.args.given.items)) c.add_given-added.new.self.known.items c.add_given-added.new.opener)
    (sym (length_push c.loop-text.yielded c.in-Some.text)) r

pub returns-in-Err-At-clause-stops : goal.returns-in-Err-At-clause-stops
returns-in-Err-At-clause-stops g c =
    let gives = c.into_iter-text-iterator.ensures.into_iter_gives in
    let y = YieldsList-from_vec {s = c.into_iter-text-iterator.result} c.args.given.items gives.0 (gives.1 ∙ c.args.given.ok.0) in
    let t = YieldsList-turn y c.loop-text.yielded c.loop-text.text-iterator c.loop-text.yielded_by c.next.result c.next.new.self c.in-Some.text c.in-Some.is c.next.ensures.steps in
    let files = g.O.Opener.files in
    let all = all_given c.args.given.items in
    let n = length c.loop-text.yielded in
    let one = one_given c.args.given.items n c.in-Some.text t.0 t.1 in
    let before = texts_listed c.loop-text.list.texts.items in
    let p = subst (λ rest. PastGiven files all [] c.args.opener.now before rest c.loop-text.list.known.items c.loop-text.opener) one c.loop-text.invariant in
    given_stops files all (all_given (drop (n + 1) c.args.given.items)) (given c.in-Some.text) [] c.loop-text.list.known.items c.args.opener.now c.loop-text.opener c.add_given-added.new.opener before (stop_of (listed c.in-Err-At.text) c.in-Err-At.why) p (subst (λ s. IsStopped s (λ stop. StopsGiven files (given c.in-Some.text) c.loop-text.list.known.items c.loop-text.opener stop c.add_given-added.new.opener)) c.in-Err-At.field-0-is c.in-Err-At.ensures.stops)

pub returns-clause-listed : goal.returns-clause-listed
returns-clause-listed g c =
    let gives = c.into_iter-text-iterator.ensures.into_iter_gives in
    let y = YieldsList-from_vec {s = c.into_iter-text-iterator.result} c.args.given.items gives.0 (gives.1 ∙ c.args.given.ok.0) in
    let t = YieldsList-end y c.loop-text.yielded c.loop-text.text-iterator c.loop-text.yielded_by c.next.result c.next.new.self c.in-None.is c.next.ensures.steps in
    let files = g.O.Opener.files in
    let all = all_given c.args.given.items in
    let none = none_given c.args.given.items (length c.loop-text.yielded) (omega (arith, t.1)) in
    given_all files all [] c.loop-text.list.known.items c.args.opener.now c.loop-text.opener (texts_listed c.loop-text.list.texts.items)
    (subst (λ rest. PastGiven files all [] c.args.opener.now (texts_listed c.loop-text.list.texts.items) rest c.loop-text.list.known.items c.loop-text.opener) none c.loop-text.invariant)
