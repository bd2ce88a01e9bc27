-- The call from which an item came once a token that an open macro gives was passed, and in live text.
use Rattle.std.proofs.Common.{◌≡◌, ◌∙◌, ℕ, Bool, true, List, refl, ap, sym, Option, Some, None, Ok}
use Rattle.pp_lexer.specs.declared.rules.Rules.{Rules}
use Rattle.pp_lexer.specs.declared.token.Location.{Location}
use Rattle.pp_model.specs.declared.read.Read.{Read}
use Rattle.pp_model.specs.declared.splice.CallPlace.{CallPlace}
use Rattle.pp_macros.specs.Item.{PlacedStep}
use Rattle.pp_macros.specs.declared.calls.Taken.{Taken}
use Rattle.pp_macros.specs.declared.calls.Taken.TheVariants as taken
use Rattle.pp_macros.specs.inner.CallTurns.{TurnsTo, passes, gives, object, seeks, no_call, refused, gathered}
use Rattle.pp_macros.specs.inner.Expander.{Expander}
use Rattle.pp_macros.specs.inner.Frames.{Frame, outermost_frame_call}
use Rattle.pp_macros.specs.inner.Giving.{passed}
use Rattle.pp_macros.specs.inner.Idle.{is_idle}
use Rattle.pp_macros.specs.inner.Reader.{Reader, of_source}
use Rattle.pp_macros.specs.inner.Source.{Source}
use Rattle.pp_macros.proofs.taking.ExpanderLemmas.{is_idle-idle}
use Rattle.pp_macros.proofs.taking.CallStaysLemmas.{token_call}
use Rattle.pp_macros.specs.inner.Expander.{kept_call}
use Rattle.pp_rs.specs.Kept.{Preprocessing, IsAhead, call_place, from_text, item_text}

-- if nothing is held, the call is that of the outermost frame
pub free_call : (o : Option (PlacedStep Read)) (call : Option CallPlace) (frames : List Frame) → o ≡ None → kept_call o call frames ≡ outermost_frame_call frames
free_call o call frames free = rw free refl

-- a token that is taken, with nothing held after it, leaves the outermost macro open
turn_call : (m n : Expander) (r s : Reader) (step : PlacedStep Taken) (read : Read) → TurnsTo m r step n s → step ≡ Ok (taken.Token read) → n.held ≡ None
    → outermost_frame_call n.frames ≡ outermost_frame_call m.frames
turn_call m n r s step read (passes exit step1 m1 n1 r1 s1 takes is) e free = cc
turn_call m n r s step read (gives other step1 m1 n1 r1 s1 takes plain is) e free = token_call m n r s other takes
turn_call m n r s step read (object other opened step1 m1 n1 p1 r1 s1 takes opens bare is at) e free = cc
turn_call m n r s step read (seeks other opened (no_call next) step1 m1 n1 p1 q1 r1 s1 t1 takes opens function seeking finds) e free =
    let held : Some next ≡ None = sym (ap (λ (k : Expander). k.held) finds.1) ∙ free in cc
turn_call m n r s step read (seeks other opened (refused fault) step1 m1 n1 p1 q1 r1 s1 t1 takes opens function seeking finds) e free =
    let f = finds.0 in cc
turn_call m n r s step read (seeks other opened (gathered paren g) step1 m1 n1 p1 q1 r1 s1 t1 takes opens function seeking finds) e free =
    let f = finds.0 in cc

-- the call that gives the token that is ahead
pub ahead_call : (p : Preprocessing) (read : Read) → IsAhead p read
    → (now : Expander) → p.expander ≡ now → (source : Source) (spent : Bool) (place : Location) (text : ℕ) (name_call : Option CallPlace) (rules : Rules)
    → call_place (record { expander = passed now; source = source; spent = spent; place = place; last = from_text text; name_call = name_call; rules = rules })
    ≡ outermost_frame_call p.expander.frames
unfolding IsAhead call_place
ahead_call p read ahead now is source spent place text name_call rules =
    let is_given = ahead.3 in
    rw (← is) (free_call p.expander.held name_call (passed p.expander).frames is_given.free
    ∙ turn_call p.expander (passed p.expander) (of_source p.source) (of_source p.source) _ _ is_given.turns refl is_given.free)

-- the text of the last item is kept
pub text_kept : (p : Preprocessing) → item_text p ≡ p.last.text
unfolding item_text
text_kept p = refl

-- no macro is open in live text
pub call_outside : (p : Preprocessing) → is_idle p.expander ≡ true → p.last.call ≡ None → call_place p ≡ None
unfolding call_place
call_outside p waits none = rw none (ap (λ (m : Expander). kept_call m.held p.name_call m.frames) (is_idle-idle p.expander waits))
