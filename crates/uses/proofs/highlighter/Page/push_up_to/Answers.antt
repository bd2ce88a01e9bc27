use Rattle.std.proofs.Common.{◌∙◌, ◌+◌, ap, length, refl, sym, subst, rules}
use Rattle.std.proofs.lemmas.Iterator.{YieldsList-from_chars}
use Rattle.std.proofs.lemmas.Iterator.Consumers.{YieldsList-end}
use Rattle.std.proofs.lemmas.List.{map-id}
use Rattle.uses.proofs.Pages.{Writes, IsPieceFrom, one_more, all_written, piece_from}
use Rattle.uses.proofs.highlighter.Page.push_up_to.Goals as goal

pub characters-preserved : goal.characters-preserved
characters-preserved c = one_more c.args.self.now c.characters.self _ c.characters.yielded c.in-Some.c c.characters.invariant refl refl c.in_ok-push_escaped.ensures

pub returns-clause-written : goal.returns-clause-written
returns-clause-written c =
    let piece = c.unwrap_or-piece.result.now in
    let all = YieldsList-end (YieldsList-from_chars {s = c.into_iter-c-iterator.result} piece c.unwrap_or-piece.utf8 (search rules))
    c.characters.yielded c.characters.c-iterator c.characters.yielded_by c.next.result c.next.new.self c.in-None.is c.next.ensures.steps in
    let taken = piece_from c.args.self.now.source.now c.args.self.now.done c.args.end c.get.result _ c.requires.reached c.get.ensures.cases refl in
    all_written c.args.self.now c.characters.self _ piece c.args.end c.requires
    (subst (Writes c.args.self.now c.characters.self) (sym (map-id c.characters.yielded) ∙ all.0) c.characters.invariant)
    (subst (IsPieceFrom c.args.self.now.source.now c.args.self.now.done c.args.end) (ap (λ p. p.now) (sym c.unwrap_or-piece.ensures)) taken)
    c.unwrap_or-piece.utf8 (ap (λ n. n + length piece) c.characters.invariant.done) refl refl
