-- The loop of `next` may pass any number of pauses of the open macros at once.
use Rattle.std.proofs.Common.{◌≡◌, ◌≤◌, Bool, inl, refl, arith, Ok, Err}
use Rattle.pp_lexer.specs.declared.rules.Rules.{Rules}
use Rattle.pp_model.specs.declared.read.Read.{Read}
use Rattle.pp_model.specs.Emitting.{expansion_limit}
use Rattle.pp_macros.specs.inner.CallTurns.{TurnsTo}
use Rattle.pp_macros.specs.inner.Giving.{PausesEach, at_once, after, GivesAhead, passed}
use Rattle.pp_macros.specs.inner.Left.{work_of}
use Rattle.pp_macros.specs.inner.Expander.{Expander}
use Rattle.pp_macros.specs.inner.Reader.{of_source}
use Rattle.pp_macros.specs.inner.Source.{Source}
use Rattle.pp_macros.specs.declared.calls.Taken.TheVariants as taken
use Rattle.pp_macros.specs.declared.step.PlacedExit.TheVariants.{Continue}
use Rattle.pp_rs.specs.inner.SourceTurns.{StepsOver}
use Rattle.pp_rs.proofs.runs.NextLemmas.{Reached, reached_more, falls_more}

-- what the loop has reached from here on, and that no more work is left
pub record ReachedOn (rules : Rules) (expander : Expander) (source : Source) (now : Expander) (source_now : Source) (then : Expander) : Type 0 where
  pub reached : Reached rules expander source then source_now
  pub least : work_of expansion_limit then (of_source source_now) ≤ work_of expansion_limit now (of_source source_now)

-- a turn of the frames is a turn of the source
turn_over : (now then : Expander) (source : Source) → TurnsTo now (of_source source) (Err Continue) then (of_source source)
    → StepsOver expansion_limit now source (Err Continue) then source
turn_over now then source turns = inl (record { taken = Err Continue; between = then; turns = turns; follows = (refl, refl) })

pub reached_on : {rules : Rules} (expander now : Expander) (source source_now : Source) → Reached rules expander source now source_now → (then : Expander)
    → PausesEach (of_source source_now) now then → ReachedOn rules expander source now source_now then
reached_on expander now source source_now r then (at_once n is) = rw is (record { reached = r; least = omega arith })
reached_on expander now source source_now r then (after between p pauses turns) =
    let h = reached_on expander now source source_now r between pauses in
    let over = turn_over between then source_now turns in
    let lower = falls_more expander between then source source_now source_now h.reached over in
    record { reached = reached_more expander between then source source_now source_now h.reached over; least = omega (arith, h.least, lower) }

-- a token that an open macro gives as its list has it is a turn too
pub given_over : (now then : Expander) (source : Source) (read : Read) (painted : Bool) → GivesAhead (of_source source) now painted read
    → then ≡ passed now → StepsOver expansion_limit now source (Ok read) then source
given_over now then source read painted gives is = rw is (inl (record {
  taken = Ok (taken.Token read);
  between = passed now;
  turns = gives.turns;
  follows = (refl, refl);
}))
