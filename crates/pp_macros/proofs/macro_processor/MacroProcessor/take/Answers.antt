use Rattle.std.proofs.Common.{refl}
use Rattle.pp_macros.proofs.open_frames.KnownLemmas.{fetch_known}
use Rattle.pp_macros.proofs.taking.NestingLemmas.{taken_painted}
use Rattle.pp_macros.proofs.macro_processor.MacroProcessor.take.Goals as goal

pub paint-requires : goal.paint-requires
paint-requires g c =
    let fetched = c.in_ok-read.ensures {u = tt} in
    record { known = fetch_known _ c.args.self.now c.fetch.new.self _ _ fetched.steps refl fetched.below c.requires.known }

pub returns-clause-steps : goal.returns-clause-steps
returns-clause-steps g c =
    taken_painted c.args.self.now.here _ c.fetch.new.self _ c.in_ok-read.read c.paint.new.read (c.in_ok-read.ensures {u = tt}).steps c.paint.ensures
    (c.in_ok-read.ensures {u = tt}).waits
