-- The tokens that come one after another in a run
use Rattle.std.proofs.Common.{◌≡◌, ◌∙◌, List, [], ◌∷◌, ◌++◌, refl, ap, sym, subst, append-nil}
use Rattle.pp_model.specs.Places.{Fault}
use Rattle.pp_model.specs.declared.outcome.Outcome.TheVariants as outcome
use Rattle.pp_rs.specs.Comes.{State, Comes, Gives, nothing, first}
use Rattle.pp_rs.specs.declared.token.Token.{Token}
use Rattle.pp_rs.proofs.runs.ComesLemmas.{one_comes}
use Rattle.pp_print.specs.SourceRuns.{last_outcome, AreFirstFrom, EndsFrom}
use Rattle.pp_print.specs.declared.ends.RunEnd.{RunEnd}
use Rattle.pp_print.specs.declared.ends.RunEnd.TheVariants.{Done, Stopped}

-- a token is no end
not_last : (t : Token) (end : RunEnd) → outcome.Token t ≡ last_outcome end → ⊥
not_last t Done e = cc
not_last t (Stopped error location) e = cc

same_end : (end other : RunEnd) → last_outcome end ≡ last_outcome other → end ≡ other
same_end Done Done e = refl
same_end Done (Stopped fault place) e = cc
same_end (Stopped error location) Done e = cc
same_end (Stopped error location) (Stopped fault place) e =
    let item : ◌≡◌ {A = Fault} (error, location) (fault, place) = cc in
    ap (λ (x : Fault). Stopped (x.0) (x.1)) item

-- what is left of a run after tokens that come first
pub gives_rest : (tokens all : List Token) (end : RunEnd) (e f g h : State) → Gives e tokens f → Gives e all g → Comes g (last_outcome end) h
    → (more : List Token) × (all ≡ tokens ++ more) × Gives f more g
gives_rest tokens all end e f g h (nothing ts e1 f1 p q) given ends =
    (all, ap (λ ts. ts ++ all) (sym p), subst (λ s. Gives s all g) (sym q) given)
gives_rest tokens all end e f g h (first t rest ts e1 m f1 c more p) (nothing us e2 g1 q r) ends =
    let there : Comes e (last_outcome end) h = subst (λ s. Comes s (last_outcome end) h) r ends in
    absurd (not_last t end (one_comes (outcome.Token t) (last_outcome end) e m h c there).0)
gives_rest tokens all end e f g h (first t rest ts e1 m f1 c more p) (first u others us e2 n g1 d given q) ends =
    let same = one_comes (outcome.Token t) (outcome.Token u) e m n c d in
    let token : u ≡ t = (let z = same.0 in cc) in
    let left = gives_rest rest others end m f g h more (subst (λ s. Gives s others g) (sym same.1) given) ends in
    (left.0, q ∙ ap (λ ts. u ∷ ts) left.1 ∙ ap (λ x. x ∷ (rest ++ left.0)) token ∙ ap (λ ts. ts ++ left.0) (sym p), left.2)

-- after the last token there is none
none_left : (more : List Token) (end other : RunEnd) (f g x y : State) → Gives f more g → Comes f (last_outcome end) x
    → Comes g (last_outcome other) y → (more ≡ []) × (end ≡ other)
none_left more end other f g x y (nothing ts f1 g1 p q) ends others =
    let there : Comes f (last_outcome other) y = subst (λ s. Comes s (last_outcome other) y) q others in
    (p, same_end end other (one_comes (last_outcome end) (last_outcome other) f x y ends there).0)
none_left more end other f g x y (first t rest ts f1 m g1 c given p) ends others =
    absurd (not_last t end (one_comes (outcome.Token t) (last_outcome end) f m x c ends).0)

-- a state has one run
pub one_run_from : (e : State) (tokens others : List Token) (end other : RunEnd) → EndsFrom e tokens end → EndsFrom e others other
    → (tokens ≡ others) × (end ≡ other)
one_run_from e tokens others end other a b =
    let left = gives_rest tokens others other e a.before b.before b.after a.gives b.gives b.ends in
    let none = none_left left.0 end other a.before b.before a.after b.after left.2 a.ends b.ends in
    (sym (left.1 ∙ ap (λ more. tokens ++ more) none.0 ∙ append-nil tokens), none.1)

-- which the tokens that come first begin
pub first_tokens_from : (e : State) (tokens all : List Token) (end : RunEnd) → AreFirstFrom e tokens → EndsFrom e all end → (more : List Token)
    × (all ≡ tokens ++ more)
first_tokens_from e tokens all end a b =
    let left = gives_rest tokens all end e a.after b.before b.after a.gives b.gives b.ends in
    (left.0, left.1)
