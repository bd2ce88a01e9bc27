use Rattle.std.proofs.Common.{◌∙◌, refl, sym, Err}
use Rattle.pp_macros.specs.inner.Giving.{at_once, after}
use Rattle.pp_macros.specs.inner.Nesting.{seen_by}
use Rattle.pp_macros.specs.declared.step.PlacedExit.TheVariants.{Continue}
use Rattle.pp_macros.proofs.open_frames.KnownLemmas.{sound_known}
use Rattle.pp_macros.proofs.taking.ExpanderLemmas.{none_held}
use Rattle.pp_macros.proofs.work.CallFallsLemmas.{turn_falls}
use Rattle.pp_macros.proofs.macro_processor.MacroProcessor.advance.Goals as goal

pub turns-init : goal.turns-init
turns-init g c = record {
  pauses = at_once _ refl;
  sound = c.requires.sound;
  free = none_held c.args.self.now.here.held (sym c.is_holding.ensures ∙ c.if-is_holding.false);
  below = refl;
}

pub turn-requires : goal.turn-requires
turn-requires g c =
    record {
      free = c.turns.invariant.free;
      waits = rw c.turns.invariant.below c.requires.waits;
      known = sound_known c.args.self.now c.turns.self (g.L.MeLexer.reader c.args.lexer.now) c.turns.invariant.sound c.turns.invariant.below c.requires.known;
    }

pub turns-preserved : goal.turns-preserved
turns-preserved g c =
    let paused = rw (c.in-Passed.is, c.turns.invariant.below) at (c.in_ok-turn.ensures {u = tt}).turns in
    let less = turn_falls 0 c.turns.self.here (seen_by c.args.self.now.below (g.L.MeLexer.reader c.args.lexer.now)) c.turns.invariant.sound (Err Continue) c.turn.new.self.here
    (seen_by c.args.self.now.below (g.L.MeLexer.reader c.args.lexer.now)) paused refl in
    record {
      pauses = after c.turns.self.here _ c.turns.invariant.pauses paused;
      sound = less.sound;
      free = (c.in_ok-turn.ensures {u = tt}).free;
      below = (c.in_ok-turn.ensures {u = tt}).below ∙ c.turns.invariant.below;
    }

pub turns-smaller : goal.turns-smaller
turns-smaller g c =
    let paused = rw (c.in-Passed.is, c.turns.invariant.below) at (c.in_ok-turn.ensures {u = tt}).turns in
    (turn_falls 0 c.turns.self.here (seen_by c.args.self.now.below (g.L.MeLexer.reader c.args.lexer.now)) c.turns.invariant.sound (Err Continue) c.turn.new.self.here
    (seen_by c.args.self.now.below (g.L.MeLexer.reader c.args.lexer.now)) paused refl).falls

-- something is held
pub returns-then-is_holding-clause-advances : goal.returns-then-is_holding-clause-advances
returns-then-is_holding-clause-advances g c = record { pauses = at_once _ refl; gives = tt }
