use Rattle.std.proofs.Common.{◌∙◌, refl, sym}
use Rattle.pp_macros.specs.inner.Giving.{further, none}
use Rattle.pp_macros.specs.inner.Reader.{of_list}
use Rattle.pp_macros.proofs.open_frames.KnownLemmas.{sound_known}
use Rattle.pp_macros.proofs.taking.ExpanderLemmas.{none_held}
use Rattle.pp_macros.proofs.taking.GivingLemmas.{giving_less}
use Rattle.pp_macros.proofs.macro_processor.MacroProcessor.give_frames.Goals as goal

pub turns-init : goal.turns-init
turns-init c = record {
  gives = none _ _ refl refl;
  sound = c.requires.sound;
  holds = c.requires.ordinary;
  free = none_held c.args.self.now.here.held (sym c.is_holding.ensures ∙ c.if-is_holding.false);
  below = refl;
}

pub give_one-requires-clause-known : goal.give_one-requires-clause-known
give_one-requires-clause-known c =
    sound_known c.args.self.now c.turns.self (of_list c.args.list.now) c.turns.invariant.sound c.turns.invariant.below c.requires.known

pub turns-preserved : goal.turns-preserved
turns-preserved c =
    let before = c.turns.invariant in
    let one = rw (before.below, c.if-branch.true) at (c.in_ok-give_one.ensures {u = tt}).gives in
    record {
      gives = further _ _ _ _ before.gives one;
      sound = (giving_less 0 _ _ _ _ _ before.sound one).sound;
      holds = (c.in_ok-give_one.ensures {u = tt}).holds;
      free = (c.in_ok-give_one.ensures {u = tt}).free;
      below = c.give_one.ensures.below ∙ before.below;
    }

pub turns-smaller : goal.turns-smaller
turns-smaller c =
    let before = c.turns.invariant in
    let one = rw (before.below, c.if-branch.true) at (c.in_ok-give_one.ensures {u = tt}).gives in
    (giving_less 0 _ _ _ _ _ before.sound one).falls

pub returns-clause-gives : goal.returns-clause-gives
returns-clause-gives c =
    let left = rw c.if-branch.false at (c.in_ok-give_one.ensures {u = tt}).gives in
    rw (left.0, left.1) c.turns.invariant.gives

-- something is held
pub returns-then-is_holding-clause-gives : goal.returns-then-is_holding-clause-gives
returns-then-is_holding-clause-gives c = none _ _ refl refl
