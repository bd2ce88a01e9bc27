-- What a frame gives, as its step says.
use Rattle.std.proofs.Common.{◌≡◌, ◌∙◌, ℕ, ◌+◌, ◌<◌, Bool, true, not, List, [], ◌∷◌, length, get_or, false, drop, refl, sym, ap, Option, Some, None, slice_get, inl, inr}
use Rattle.std.specs.Prelude.{is_some, IsSome}
use Rattle.std.proofs.lemmas.Option.{slice_get_within, get_or_from_slice_get, slice_get_cases}
use Rattle.std.proofs.lemmas.List.{drop_more, drop_all, drop-drop}
use Rattle.pp_lexer.specs.declared.token.Token.{Token}
use Rattle.pp_model.specs.declared.read.Read.{Read}
use Rattle.pp_model.specs.Definitions.{Definition}
use Rattle.pp_model.specs.Painting.{read_in}
use Rattle.pp_model.specs.SpliceList.{parameter_of}
use Rattle.pp_macros.specs.inner.Ahead.{given_by, frame_after}
use Rattle.pp_macros.specs.inner.Bodies.{IsEntryAt}
use Rattle.pp_macros.specs.inner.Frames.{Frame, Advance, advance, argument_at, arguments_left}
use Rattle.pp_macros.specs.declared.define.BodyEntry.{BodyEntry}
use Rattle.pp_macros.specs.declared.define.BodyEntry.TheVariants as entry

-- the item at a place, and what stands after it
pub drop-some : {X : Type 0} (xs : List X) (k : ℕ) (x : X) → slice_get xs k ≡ Some x → drop k xs ≡ x ∷ drop (k + 1) xs
drop-some xs k x e =
    let within : k < length xs = slice_get_within xs k x e in
    let same : get_or xs k x ≡ x = get_or_from_slice_get xs k x x e in
    drop_more xs k x within ∙ ap (λ y. y ∷ drop (k + 1) xs) same

-- no item stands there
pub drop-none : {X : Type 0} (xs : List X) (k : ℕ) → slice_get xs k ≡ None → drop k xs ≡ []
drop-none xs k e = elim (slice_get_cases xs k).1 [ inl w ↦ cc | inr w ↦ drop_all k xs w.0 ]

-- nothing is read
pub none_read : {X : Type 0} (o : Option X) → is_some o ≡ false → o ≡ None
none_read None e = refl
none_read (Some x) e = cc

-- what a frame does at an entry of its body
abbrev pub entry_step : Frame → BodyEntry → List Token → Advance
entry_step f (entry.Token token number) rest = record { gives = Some (read_in f.text token); after = record f { body = rest } }
entry_step f (entry.Parameter k location is_last) rest = record {
  gives = None;
  after = record f {
    body = rest;
    arguments = arguments_left f.arguments k (not is_last);
    reading = Some (argument_at f.arguments k);
  };
}

-- a frame that reads no argument, and has come to this position in the body of its definition
pub record IsAt (f : Frame) (definition : Definition) (k : ℕ) : Type 0 where
  pub reads : f.reading ≡ None
  pub parameters : f.parameters ≡ definition.parameters
  pub body : f.body ≡ drop k definition.body

not_not : (b c : Bool) → c ≡ not b → not c ≡ b
not_not true c e = rw e refl
not_not false c e = rw e refl

-- its step at an entry
pub steps_at : (f : Frame) (definition : Definition) (k : ℕ) (e : BodyEntry) → IsAt f definition k → IsEntryAt definition k e
    → advance f ≡ Some (entry_step f e (drop (k + 1) definition.body))
steps_at f definition k (entry.Token token number) at here =
    rw (at.reads, at.body, here.tokens, at.parameters, here.is_right.1) refl
steps_at f definition k (entry.Parameter j location is_last) at here =
    rw (at.reads, at.body, here.tokens, at.parameters, here.is_right.0, not_not _ _ here.is_right.1) refl

-- a frame that gives a token isn't at the end of its argument or of its body
pub gives_something : {Z : Type 0} (o : Option Read) → None ≡ o → IsSome o → Z
gives_something o e some =
    let none : is_some o ≡ false = rw (← e) refl in
    cc

-- a frame that gives a token of its body goes on after that token
pub passes_given : (f : Frame) (definition : Definition) (k : ℕ) → IsAt f definition k → IsSome (given_by (advance f))
    → record f { body = drop (k + 1) definition.body } ≡ frame_after f (advance f)
passes_given f definition k at gives = go f.body refl
  where
    go : (body : List Token) → f.body ≡ body → record f { body = drop (k + 1) definition.body } ≡ frame_after f (advance f)
    go [] e =
        let none : None ≡ given_by (advance f) = rw (at.reads, e) refl in
        gives_something _ none gives
    go (token ∷ rest) e = by (parameter_of f.parameters token.value) refl
      where
        left : drop (k + 1) definition.body ≡ rest
        left = sym (drop-drop 1 k definition.body) ∙ ap (drop 1) (sym at.body ∙ e)

        by : (parameter : Option ℕ) → parameter_of f.parameters token.value ≡ parameter
            → record f { body = drop (k + 1) definition.body } ≡ frame_after f (advance f)
        by None p = rw (at.reads, e, p, left) refl
        by (Some j) p =
            let none : None ≡ given_by (advance f) = rw (at.reads, e, p) refl in
            gives_something _ none gives
