use Rattle.std.proofs.Common.{◌∙◌, sym, arith, ◌<◌, length}
use Rattle.pp_model.specs.Sights.{sight_of}
use Rattle.pp_model.specs.Moves.{move_at}
use Rattle.pp_reference.proofs.ShownLemmas.{shown_here, shown_later}
use Rattle.pp_reference.proofs.SourceStepLemmas.{ok_more}
use Rattle.pp_reference.proofs.source_reader.SourceReader.+shown_length.Goals as goal

pub returns-then-branch-clause-is : goal.returns-then-branch-clause-is
returns-then-branch-clause-is t c =
    let more : c.args.count < length c.args.line.now = omega (arith, c.requires, c.if-count-line.false) in
    shown_here (λ items. (move_at c.args.self.now.rules c.args.live c.args.block.now (sight_of items) items).effect) c.args.line.now c.args.count more
    (sym (c.in_ok-shows.ensures {u = tt}) ∙ c.if-branch.true)

pub returns-clause-is : goal.returns-clause-is
returns-clause-is t c =
    let more : c.args.count < length c.args.line.now = omega (arith, c.requires, c.if-count-line.false) in
    ok_more _ _ c.shown_length.result
    (λ total is. shown_later (λ items. (move_at c.args.self.now.rules c.args.live c.args.block.now (sight_of items) items).effect) c.args.line.now c.args.count total more
    (sym (c.in_ok-shows.ensures {u = tt}) ∙ c.if-branch.false) is)
    c.shown_length.ensures.is
