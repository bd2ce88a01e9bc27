-- How far the calls of the preprocessor have got. No contract of a public call cites this.
use Rattle.std.specs.Prelude.{◌≡◌, ℕ, zero, suc, ◌+◌, ◌-◌, ◌<◌, ◌≤◌, ◌^◌, min, max, Bool, true, false, if◌then◌else◌}
use Rattle.std.specs.Prelude.{List, [], ◌∷◌, ◌++◌, map, length, drop, replicate}
use Rattle.std.specs.Prelude.{Option, Some, None, option_map, MatchOption, Ok, Err, ⊤}
use Rattle.std.specs.Str.{chars}
use Rattle.pp_macros.specs.Item.{Item as Given_item}
use Rattle.pp_model.specs.Places.{Fault}
use Rattle.pp_model.specs.Run.{Call, add_define, include, next, items_by, content_tokens}
use Rattle.pp_rs.specs.Adding.{IsWithAdded}
use Rattle.pp_rs.specs.Including.{IsWithIncluded}
use Rattle.pp_rs.specs.Kept.{Preprocessing, is_spent, error_place, asked_line, rules_of}
use Rattle.pp_rs.specs.Preprocessing.{IsGivenItem}
use Rattle.pp_rs.specs.declared.token.Location.{Location}
use Rattle.pp_rs.specs.declared.token.Token.{Token}
use Rattle.pp_c.specs.Calls.{entering, answered_in, calls_from}
use Rattle.pp_c.specs.Preprocessed.{Given, token, error, given_entries, entries_of, asks, lines_in, times_asked}
use Rattle.pp_c.specs.Preprocessed.{answers_of, AreItemsBy, AreWritten, EndsAtLine}
use Rattle.pp_c.specs.inner.Settings.{takes_texts}
use Rattle.pp_c.specs.inner.Taking.{Takes}
use Rattle.pp_c.specs.declared.items.Definition.{Definition}
use Rattle.pp_c.specs.declared.items.Item.{Item}
use Rattle.pp_c.specs.declared.items.Sizes.{Sizes}
use Rattle.pp_c.specs.declared.options.Setting.{Setting}
use Rattle.pp_c.specs.declared.output.Output.{Output}
use Rattle.pp_c.specs.declared.preprocessing.Progress.{Progress}
use Rattle.pp_c.specs.declared.status.End.{End}
use Rattle.pp_c.specs.declared.status.End.TheVariants.{All, Front, Include}

abbrev pub item_of : Given → Given_item
item_of (token t) = Ok t
item_of (error fault place asked) = Err fault

-- an item that came, if it is an error with this true place, and asking for this
abbrev pub given_of : Given_item → Location → Option Location → Given
given_of (Ok t) place asked = token t
given_of (Err fault) place asked = error fault place asked

-- an error is at this place, and asks for this
abbrev pub IsAt : Given → Location → Option Location → Type 0
IsAt (token t) place asked = ⊤
IsAt (error fault at line) place asked = (at ≡ place) × (line ≡ asked)

-- one call of `next`: an item, or the end; the rules stay
pub record GivesNext (old : Preprocessing) (answer : Option Given) (new : Preprocessing) : Type 0 where
  pub given : IsGivenItem old (option_map item_of answer) new
  pub placed : MatchOption answer ⊤ (λ given. IsAt given (error_place new) (asked_line new))
  pub rules : rules_of new ≡ rules_of old

-- these calls were made one after another, and those of `next` gave these answers
pub data Made : Preprocessing → List Call → List (Option Given) → Preprocessing → Type 0 where
  none : (p q : Preprocessing) (calls : List Call) (answers : List (Option Given))
      → calls ≡ []
      → answers ≡ []
      → q ≡ p
      → Made p calls answers q
  added : (name content : List ℕ) (tokens : List Token) (p q r : Preprocessing)
      (rest calls : List Call) (answers : List (Option Given))
      → content_tokens (items_by (rules_of p) content) ≡ Ok tokens
      → IsWithAdded (chars name) tokens p q
      → Made q rest answers r
      → calls ≡ add_define name content ∷ rest
      → Made p calls answers r
  refused : (name content : List ℕ) (fault : Fault) (p r : Preprocessing)
      (rest calls : List Call) (answers : List (Option Given))
      → content_tokens (items_by (rules_of p) content) ≡ Err fault
      → Made p rest answers r
      → calls ≡ add_define name content ∷ rest
      → Made p calls answers r
  included : (text : List ℕ) (p q r : Preprocessing) (rest calls : List Call) (answers : List (Option Given))
      → IsWithIncluded text p q
      → Made q rest answers r
      → calls ≡ include text ∷ rest
      → Made p calls answers r
  gave : (answer : Option Given) (p q r : Preprocessing)
      (rest calls : List Call) (others answers : List (Option Given))
      → GivesNext p answer q
      → Made q rest others r
      → calls ≡ next ∷ rest
      → answers ≡ answer ∷ others
      → Made p calls answers r

-- one call of `next` gave an answer, and an item was written, which asks for a text or not
pub record NextIsWritten (old new : Preprocessing) (output output_after : Output) (more : Option Bool) : Type 0 where
  pub answer : Option Given
  pub gives : GivesNext old answer new
  pub takes : MatchOption answer (output_after ≡ output) (λ given. Takes output (given_entries given) output_after)
  pub is_more : more ≡ option_map asks answer

-- the end was reached
abbrev pub is_all : End → Bool
is_all All = true
is_all Front = false
is_all Include = false

-- the items don't end yet
abbrev pub is_front : End → Bool
is_front All = false
is_front Front = true
is_front Include = false

-- how many calls of `next` were made
abbrev pub made_of : Progress → ℕ
made_of progress = progress.given + (if is_all progress.end then 1 else 0)

-- where the items end after an item that asks for a text or not, if this many lines may be passed, if they are counted
abbrev pub end_after : Bool → Option ℕ → End → End
end_after false passes end = end
end_after true None end = end
end_after true (Some zero) end = Include
end_after true (Some (suc lines)) end = end

-- how many may be passed after it
abbrev pub passes_after : Bool → Option ℕ → Option ℕ
passes_after false passes = passes
passes_after true None = None
passes_after true (Some lines) = Some (lines - 1)

-- one more item, which asks for a text or not
abbrev pub taken : Bool → Progress → Progress
taken asking progress = record {
  given = progress.given + 1;
  passes = passes_after asking progress.passes;
  end = end_after asking progress.passes progress.end;
}

-- so many lines were passed, if they are counted, and the items end at the next one or not
abbrev pub AskedBy : Option ℕ → End → Option ℕ → List Given → Type 0
AskedBy None All passes given = passes ≡ None
AskedBy None Front passes given = passes ≡ None
AskedBy None Include passes given = ⊥
AskedBy (Some passed) All passes given = MatchOption passes ⊥ (λ lines. lines + lines_in given ≡ passed)
AskedBy (Some passed) Front passes given = MatchOption passes ⊥ (λ lines. lines + lines_in given ≡ passed)
AskedBy (Some passed) Include passes given = EndsAtLine passed given

-- the same of a whole call
abbrev pub IsAsked : Option ℕ → End → List Given → Type 0
IsAsked None All given = ⊤
IsAsked None Front given = ⊤
IsAsked None Include given = ⊥
IsAsked (Some passed) All given = lines_in given ≤ passed
IsAsked (Some passed) Front given = lines_in given ≤ passed
IsAsked (Some passed) Include given = EndsAtLine passed given

-- a call that stops after `most` items, at the end, or at a line that asks, gave this many
abbrev pub StopsBy : Option ℕ → End → ℕ → Type 0
StopsBy None All count = ⊤
StopsBy None Front count = ⊥
StopsBy None Include count = ⊤
StopsBy (Some most) All count = count < most
StopsBy (Some most) Front count = count ≡ most
StopsBy (Some most) Include count = count ≤ most

-- the count is at most this one, if there is one
abbrev pub IsWithin : Option ℕ → ℕ → Type 0
IsWithin None count = ⊤
IsWithin (Some most) count = count ≤ most

-- the smaller of both, if there are two
abbrev pub up_to : Option ℕ → ℕ → ℕ
up_to None count = count
up_to (Some most) count = min count most

-- the memory is smaller than 2^63, as all memory is
pub record IsSmall (output : Output) : Type 0 where
  pub items : length output.items.now < 2 ^ 63
  pub texts : length output.texts.now < 2 ^ 63

-- these calls were made, and what they gave was written
pub record HasCome (passed : Option ℕ) (start : Preprocessing) (output : Output) (calls : List Call)
    (progress : Progress) (new : Preprocessing) (output_after : Output) : Type 0 where
  pub given : List Given
  pub made : Made start calls (answers_of given (is_all progress.end)) new
  pub takes : Takes output (entries_of given) output_after
  pub count : progress.given ≡ length given
  pub asked : AskedBy passed progress.end progress.passes given
  pub small : IsSmall output_after

-- items were given until there were `count` of them, or up to the end or to a line that asks
pub record IsUntil (count : ℕ) (old new : Progress) : Type 0 where
  pub ended : is_front old.end ≡ false → new ≡ old
  pub reached : is_front old.end ≡ true → is_front new.end ≡ true → new.given ≡ max old.given count
  pub ends : is_front old.end ≡ true → is_front new.end ≡ false → (old.given ≤ new.given) × (made_of new ≤ count)

-- the same, but perhaps not finished yet
pub record Approaches (count : ℕ) (old new : Progress) : Type 0 where
  pub ended : is_front old.end ≡ false → new ≡ old
  pub goes : is_front old.end ≡ true
      → is_front new.end ≡ true
      → (old.given ≤ new.given) × (new.given ≤ max old.given count)
  pub ends : is_front old.end ≡ true → is_front new.end ≡ false → (old.given ≤ new.given) × (made_of new ≤ count)

-- what was done before, with more calls of `next`
pub record GoesOn (old : Preprocessing) (output : Output) (progress : Progress) (new : Preprocessing)
    (output_after : Output) (progress_after : Progress) : Type 0 where
  pub fewer : made_of progress ≤ made_of progress_after
  pub come : (passed : Option ℕ) (start : Preprocessing) (first : Output) (calls : List Call)
      → HasCome passed start first calls progress old output
      → HasCome passed start first (calls ++ replicate (made_of progress_after - made_of progress) next)
      progress_after new output_after

-- items were given, perhaps not yet `count` of them, nor all up to the end
pub record GivesTowards (count : ℕ) (old : Preprocessing) (output : Output) (progress : Progress)
    (new : Preprocessing) (output_after : Output) (progress_after : Progress) : Type 0 where
  pub unspent : is_spent new ≡ false
  pub approaches : Approaches count progress progress_after
  pub goes : GoesOn old output progress new output_after progress_after

-- what was left was given, and then the end
pub record GivesToEnd (old : Preprocessing) (output : Output) (new : Preprocessing)
    (output_after : Output) : Type 0 where
  pub more : List Given
  pub made : Made old (replicate (length more + 1) next) (map Some more ++ None ∷ []) new
  pub takes : Takes output (entries_of more) output_after

-- the same, if the end was not given before; nothing happens otherwise
pub record HasRest (progress : Progress) (old : Preprocessing) (output : Output) (new : Preprocessing)
    (output_after : Output) : Type 0 where
  pub ended : is_front progress.end ≡ false → (new ≡ old) × (output_after ≡ output)
  pub rest : is_front progress.end ≡ true → GivesToEnd old output new output_after

-- some of the items that were left were given
pub record GivesRest (old : Preprocessing) (output : Output) (new : Preprocessing)
    (output_after : Output) : Type 0 where
  pub more : List Given
  pub made : Made old (replicate (length more) next) (map Some more) new
  pub takes : Takes output (entries_of more) output_after
  pub unspent : is_spent new ≡ false

-- `next` may be called `all` times in the whole run
pub record IsPossible (most : Option ℕ) (progress : Progress) (all : ℕ) : Type 0 where
  pub ended : is_front progress.end ≡ false → all ≡ made_of progress
  pub goes_on : is_front progress.end ≡ true → progress.given ≤ all
  pub within : IsWithin most all

-- the definitions before the one at this index were added, and the items before it were given
pub record HasAdded (setting : Setting) (start : Preprocessing) (first : Output) (words : List ℕ)
    (definitions : List Definition) (at : ℕ) (progress : Progress) (new : Preprocessing)
    (output_after : Output) : Type 0 where
  pub calls : List Call
  pub come : HasCome setting.passes start first calls progress new output_after
  pub plan : (all : ℕ) → IsPossible setting.most_items progress all
      → calls_from (takes_texts setting) words all 0 definitions
      ≡ calls ++ calls_from (takes_texts setting) words all (made_of progress) (drop at definitions)
  pub within : IsWithin setting.most_items (made_of progress)
  pub unspent : is_spent new ≡ false

-- all calls were made, up to where the items end, and what they gave was written
pub record HasAll (setting : Setting) (end : End) (start : Preprocessing) (output : Output) (words : List ℕ)
    (definitions : List Definition) (new : Preprocessing) (output_after : Output) : Type 0 where
  pub given : List Given
  pub made : Made start (calls_from (takes_texts setting) words (times_asked (is_all end) given) 0 definitions)
      (answers_of given (is_all end)) new
  pub stops : StopsBy setting.most_items end (length given)
  pub asked : IsAsked setting.passes end given
  pub takes : Takes output (entries_of given) output_after

-- one text was included, or one definition was added or refused, and the reply is written into it
pub record AddsOne (texts : Bool) (words : List ℕ) (definition definition_after : Definition)
    (old new : Preprocessing) : Type 0 where
  pub made : Made old (entering texts words definition ∷ []) [] new
  pub spent : is_spent new ≡ is_spent old
  pub written : definition_after ≡ answered_in texts (rules_of old) words definition

-- the items of a source were written
pub record Gives (setting : Setting) (end : End) (source words : List ℕ) (definitions : List Definition)
    (output output_after : Output) : Type 0 where
  pub given : List Given
  pub are_items : AreItemsBy setting.rules (takes_texts setting) source words definitions (is_all end) given
  pub stops : StopsBy setting.most_items end (length given)
  pub asked : IsAsked setting.passes end given
  pub takes : Takes output (entries_of given) output_after

-- the items of a call were written into the caller's memory, and the answer says where they end
pub record Answers (setting : Setting) (answer : ℕ) (source words : List ℕ) (definitions : List Definition)
    (items items_after : List Item) (texts texts_after : List ℕ) (sizes : Sizes) : Type 0 where
  pub end : End
  pub done : answer ≡ 0 → end ≡ All
  pub partial : answer ≡ 7 → end ≡ Front
  pub asking : answer ≡ 9 → end ≡ Include
  pub given : List Given
  pub are_items : AreItemsBy setting.rules (takes_texts setting) source words definitions (is_all end) given
  pub stops : StopsBy setting.most_items end (length given)
  pub asked : IsAsked setting.passes end given
  pub written : AreWritten (entries_of given) items items_after texts texts_after sizes
