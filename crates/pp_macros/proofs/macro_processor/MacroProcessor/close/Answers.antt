use Rattle.std.proofs.Common.{◌≡◌, ◌-◌, length, take}
use Rattle.pp_macros.proofs.open_frames.BaseLemmas.{closed_here, closed_within}
use Rattle.pp_macros.proofs.open_frames.CountLemmas.{counted_cut, cut_some, cut_within}
use Rattle.pp_macros.proofs.macro_processor.MacroProcessor.close.Goals as goal

pub index_mut-requires : goal.index_mut-requires
index_mut-requires c =
    rw c.self.inside.counts.ok.0 (cut_within c.self.inside.counts.items c.self.inside.frames.items c.pop.new.self.items c.in-Some.frame c.number.result
    c.in-Some.ensures.items c.number.ensures c.self.invariant.0)

pub overflow_sub-index_mut : goal.overflow_sub-index_mut
overflow_sub-index_mut c =
    cut_some c.self.inside.counts.items c.self.inside.frames.items c.pop.new.self.items c.in-Some.frame c.number.result c.index_mut.result.now
    c.in-Some.ensures.items c.number.ensures c.self.invariant.0 c.index_mut.ensures.value

pub invariant_of-self-2 : goal.invariant_of-self-2
invariant_of-self-2 c =
    let rest : c.pop.new.self.items ≡ take (length c.self.inside.frames.items - 1) c.self.inside.frames.items =
    rw c.self.inside.frames.ok.0 at c.pop.ensures.rest in (
      counted_cut c.self.inside.counts.items c.self.inside.frames.items c.pop.new.self.items c.in-Some.frame c.number.result c.index_mut.result.now
          c.in-Some.ensures.items c.number.ensures c.self.invariant.0 c.index_mut.ensures.value,
      c.self.invariant.1,
      closed_within c.self.inside.held c.self.inside.base c.self.inside.frames.items c.args.self.now c.self.view_is c.requires c.pop.new.self.items rest,
    )

pub returns : goal.returns
returns c =
    let rest : c.pop.new.self.items ≡ take (length c.self.inside.frames.items - 1) c.self.inside.frames.items =
    rw c.self.inside.frames.ok.0 at c.pop.ensures.rest in
    closed_here c.self.inside.held c.self.inside.base c.self.inside.frames.items c.args.self.now c.self.view_is c.requires c.pop.new.self.items rest
