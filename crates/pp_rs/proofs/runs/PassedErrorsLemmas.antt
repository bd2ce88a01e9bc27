-- Errors of the lexer that are passed.
use Rattle.std.proofs.Common.{◌≡◌, ◌∙◌, Bool, true, false, List, [], ◌∷◌, None, ap, subst}
use Rattle.pp_macros.specs.LexerErrors.{ErrorAt, AreLeft, none, kept, passed, PassesErrors}
use Rattle.pp_macros.specs.inner.Unreported.{Unreported, ReportsNone}
use Rattle.pp_directives.proofs.PassedErrorsLemmas.{front_passed}

same_first : (e f : ErrorAt) (es fs others : List ErrorAt) → others ≡ e ∷ es → others ≡ f ∷ fs → f ≡ e
same_first e f es fs others h k = cc

same_rest : (e f : ErrorAt) (es fs others : List ErrorAt) → others ≡ e ∷ es → others ≡ f ∷ fs → fs ≡ es
same_rest e f es fs others h k = cc

-- of none, none is left
none_left : (before after : List ErrorAt) → before ≡ [] → AreLeft before after → after ≡ []
none_left before after empty (none b a before_empty after_empty) = after_empty
none_left before after empty (kept error b ones a others is are h) = cc
none_left before after empty (passed error b ones a is h) = cc

-- some are passed, and then others
left_then : (before between after : List ErrorAt) → AreLeft before between → AreLeft between after → AreLeft before after
left_then before between after (none b m empty left) k = none before after empty (none_left between after left k)
left_then before between after (kept error b ones m others is are h) (none m1 a between_empty after_empty) = cc
left_then before between after (kept error b ones m others is are h) (kept second m1 more a rest is_second are_rest k) =
    kept error before ones after rest is (are_rest ∙ ap (λ (e : ErrorAt). e ∷ rest) (same_first error second others more between are is_second))
    (left_then ones others rest h (subst (λ (es : List ErrorAt). AreLeft es rest) (same_rest error second others more between are is_second) k))
left_then before between after (kept error b ones m others is are h) (passed second m1 more a is_second k) =
    passed error before ones after is
    (left_then ones others after h (subst (λ (es : List ErrorAt). AreLeft es after) (same_rest error second others more between are is_second) k))
left_then before between after (passed error b ones m is h) k = passed error before ones after is (left_then ones between after h k)

pub passes_then : (passes : Bool) (before between after : List ErrorAt) → PassesErrors passes before between → PassesErrors passes between after
    → PassesErrors passes before after
passes_then false before between after h k = k ∙ h
passes_then true before between after h k = left_then before between after h k

-- where nothing is reported, some may be passed
pub none_passes : (passes : Bool) (old new : Unreported) → ReportsNone passes old new → old.read ≡ None
    → PassesErrors passes old.later new.later × (new.read ≡ None)
none_passes false old new same unread = (ap (λ (u : Unreported). u.later) same, ap (λ (u : Unreported). u.read) same ∙ unread)
none_passes true old new h unread = let g = h unread in (front_passed g.1.0 old.later new.later g.1.1, g.0)
