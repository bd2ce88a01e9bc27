-- What is left to do for an expander with calls falls with each step, and when a frame opens after a call.
use Rattle.std.proofs.Common.{◌≡◌, ◌∙◌, ℕ, zero, suc, ◌+◌, ◌*◌, ◌-◌, ◌<◌, ◌≤◌, List, [], ◌∷◌, length, arith, le_trans, lt_of_le_of_lt, mul-le-mul, add-mul, one-mul, ap, subst, refl, Option, Some, None, All}
use Rattle.std.proofs.lemmas.Option.{slice_get_within, get_or_from_slice_get}
use Rattle.std.proofs.lemmas.List.Elements.{All-get_or}
use Rattle.std.specs.Prelude.{slice_get, get_or, unwrap_or}
use Rattle.std.specs.Fn.{iterate}
use Rattle.pp_lexer.specs.declared.token.Token.{Token}
use Rattle.pp_model.specs.declared.read.Read.{Read}
use Rattle.pp_model.specs.Names.{Name}
use Rattle.pp_macros.specs.inner.Defined.{Macro}
use Rattle.pp_model.specs.SpliceList.{parameter_of}
use Rattle.pp_model.specs.declared.splice.CallPlace.{CallPlace}
use Rattle.pp_macros.specs.inner.Frames.{Frame, new_frame, argument_at}
use Rattle.pp_macros.specs.inner.Left.{reads_left, most_open, most_bodies, one_more, regions_of, regions, work_of}
use Rattle.pp_macros.specs.inner.Expander.{Expander}
use Rattle.pp_macros.specs.inner.Reach.{growth, through, total, most_tokens, frame_steps}
use Rattle.pp_macros.specs.inner.Reader.{Reader, Listing, of_list}
use Rattle.pp_macros.specs.inner.Work.{token_steps, body_steps, steps_left}
use Rattle.pp_macros.proofs.work.IterateLemmas.{iterate_least, steep_is_level}
use Rattle.pp_macros.proofs.work.ReachLemmas.{grown_steep, grown_up, grown_under, through_least, frame_steps_level, frame_steps_under, opened_falls}
use Rattle.pp_macros.proofs.work.SpendLemmas.{IsNoMore, Falls, Tightens}

-- the frames that an expander has at most of its own
abbrev pub frame_of : ℕ → Reader → ℕ → ℕ
frame_of levels r = frame_steps (most_bodies r) (most_open r) levels

-- what is left falls where the regions fall
pub falls_work : (levels : ℕ) (m n : Expander) (r s : Reader) → Tightens r s → Falls (frame_of levels r) (most_open r) (regions m r) (regions n s)
    → work_of levels n s < work_of levels m r
falls_work levels m n r s tight falls =
    lt_of_le_of_lt
    (through_least (frame_of levels s) (frame_of levels r) (most_open s) (most_open r) (total (regions n s)) (total (regions m r)) (regions n s)
    (frame_steps_level (most_bodies s) (most_open s) levels) (frame_steps_level (most_bodies r) (most_open r) levels)
    (frame_steps_under (most_bodies s) (most_bodies r) (most_open s) (most_open r) levels tight.bodies tight.names) tight.names
    (omega (arith, falls.least)))
    (falls.number (total (regions m r)))

pub no_more_work : (levels : ℕ) (m n : Expander) (r s : Reader) → Tightens r s
    → IsNoMore (frame_of levels r) (most_open r) (regions m r) (regions n s) → work_of levels n s ≤ work_of levels m r
no_more_work levels m n r s tight h =
    le_trans
    (through_least (frame_of levels s) (frame_of levels r) (most_open s) (most_open r) (total (regions n s)) (total (regions m r)) (regions n s)
    (frame_steps_level (most_bodies s) (most_open s) levels) (frame_steps_level (most_bodies r) (most_open r) levels)
    (frame_steps_under (most_bodies s) (most_bodies r) (most_open s) (most_open r) levels tight.bodies tight.names) tight.names h.least)
    (h.number (total (regions m r)))

-- a frame that opens where there is room lowers what is left
pub opened_work : (levels : ℕ) (m : Expander) (f : Frame) (fs : List Frame) (r s : Reader) → Tightens r s
    → IsNoMore (frame_of levels r) (most_open r) (regions m r) (one_more (regions_of fs (reads_left s)))
    → steps_left f ≤ frame_of levels r (total (regions m r)) → length (f ∷ fs) ≤ most_open s
    → work_of levels (record { held = None; frames = f ∷ fs }) s < work_of levels m r
opened_work levels m f [] r s tight room low few =
    let c = total (regions m r) in
    opened_falls (most_bodies r) (most_open r) levels (most_bodies s) (most_open s) c (through (frame_of levels r) (most_open r) (regions m r) c)
    (steps_left f) (reads_left s) [] tight.bodies tight.names
    (record { least = omega (arith, room.least); number = room.number c }) low (omega (arith, few, tight.names))
opened_work levels m f (g ∷ gs) r s tight room low few =
    let c = total (regions m r) in
    opened_falls (most_bodies r) (most_open r) levels (most_bodies s) (most_open s) c (through (frame_of levels r) (most_open r) (regions m r) c)
    (steps_left f) (steps_left g) (regions_of gs (reads_left s)) tight.bodies tight.names
    (record { least = omega (arith, room.least); number = room.number c }) low (omega (arith, few, tight.names, length_regions gs (reads_left s)))
  where
    length_regions : (fs : List Frame) (reads : ℕ) → length (regions_of fs reads) ≡ suc (length fs)
    length_regions [] reads = refl
    length_regions (f ∷ fs) reads = ap suc (length_regions fs reads)

-- how many steps a frame has, where no argument has more tokens than this
token_least : (arguments : List (List Read)) (most : ℕ) (p : Option ℕ) → ((k : ℕ) → length (argument_at arguments k) ≤ most)
    → token_steps arguments p ≤ most + 2
token_least arguments most None low = omega arith
token_least arguments most (Some k) low = omega (arith, low k)

body_least : (parameters : List Name) (arguments : List (List Read)) (most : ℕ) (body : List Token)
    → ((k : ℕ) → length (argument_at arguments k) ≤ most) → body_steps parameters arguments body ≤ length body * (most + 2) + 1
body_least parameters arguments most [] low = omega arith
body_least parameters arguments most (token ∷ rest) low =
    let here = token_least arguments most (parameter_of parameters token.value) low in
    let rests = body_least parameters arguments most rest low in
    let one : suc (length rest) * (most + 2) ≡ (most + 2) + length rest * (most + 2) = omega (arith, add-mul (length rest) 1 (most + 2), one-mul (most + 2)) in
    omega (arith, here, rests, one)

argument_least : (arguments : List (List Read)) (most : ℕ) → All (λ argument. length argument ≤ most) arguments → (k : ℕ)
    → length (argument_at arguments k) ≤ most
argument_least arguments most all k = go (slice_get arguments k) refl
  where
    go : (o : Option (List Read)) → slice_get arguments k ≡ o → length (unwrap_or o []) ≤ most
    go None e = omega arith
    go (Some argument) e =
        let P = λ (a : List Read). length a ≤ most in
        let is : get_or arguments k [] ≡ argument = get_or_from_slice_get arguments k argument [] e in
        subst P is (All-get_or P arguments k [] (slice_get_within arguments k argument e) all)

-- the frame of an object-like macro
pub object_steps : (levels c bodies names : ℕ) (opened : Macro) (call : CallPlace) → length opened.definition.body ≤ bodies
    → steps_left (new_frame opened call []) ≤ frame_steps bodies names levels c
object_steps zero c bodies names opened call low =
    let h = body_least opened.definition.parameters [] 0 opened.definition.body (λ k. omega arith) in
    let g : length opened.definition.body * 2 ≤ bodies * 2 = mul-le-mul low (omega arith) in
    omega arith
object_steps (suc levels) c bodies names opened call low =
    let most = most_tokens (frame_steps bodies names levels) names c in
    let h = body_least opened.definition.parameters [] 0 opened.definition.body (λ k. omega arith) in
    let g : length opened.definition.body * 2 ≤ bodies * (most + 2) = mul-le-mul low (omega arith) in
    omega arith

-- the frame of a call, whose arguments came from so many tokens at most
pub call_steps : (levels c bodies names : ℕ) (opened : Macro) (call : CallPlace) (arguments : List (List Read))
    → length opened.definition.body ≤ bodies
    → All (λ argument. length argument ≤ most_tokens (frame_steps bodies names levels) names c) arguments
    → steps_left (new_frame opened call arguments) ≤ frame_steps bodies names (suc levels) c
call_steps levels c bodies names opened call arguments low all =
    let most = most_tokens (frame_steps bodies names levels) names c in
    let h = body_least opened.definition.parameters arguments most opened.definition.body (argument_least arguments most all) in
    let g : length opened.definition.body * (most + 2) ≤ bodies * (most + 2) = mul-le-mul low (omega arith) in
    omega arith

-- What tokens come to alone where they are read in a list, so many levels deeper: no more than this.
abbrev pub most_alone_at : ℕ → Reader → ℕ → ℕ
most_alone_at levels r n = most_tokens (frame_of levels r) (most_open r) n

-- arguments that came of so many tokens at the call's end fit what the call had at its start
pub alone_least : (levels n c : ℕ) (r s : Reader) → Tightens r s → n ≤ c → most_alone_at levels s n ≤ most_alone_at levels r c
alone_least levels n c r s tight low =
    let frame = frame_of levels s in
    let wider = frame_of levels r in
    let level = frame_steps_level (most_bodies s) (most_open s) levels in
    iterate_least (growth frame (most_open s)) (growth wider (most_open r)) n c n c
    (steep_is_level (growth frame (most_open s)) (grown_steep frame (most_open s) level)) (grown_up wider (most_open r))
    (grown_under frame wider (most_open s) (most_open r) level
    (frame_steps_under (most_bodies s) (most_bodies r) (most_open s) (most_open r) levels tight.bodies tight.names) tight.names) low low

-- all that is left at the start of reading a list alone
pub start_work : (levels : ℕ) (list : Listing) → work_of levels (record { held = None; frames = [] }) (of_list list) ≡ most_alone_at levels
    (of_list list) (length list.tokens)
start_work levels list =
    let n = length list.tokens in
    let f = frame_of levels (of_list list) in
    let e : n + 0 ≡ n = omega arith in
    let d : most_open (of_list list) - 0 ≡ most_open (of_list list) = omega arith in
    ap (λ k. iterate (growth f (most_open (of_list list) - 0)) n k) e ∙ ap (λ k. iterate (growth f k) n n) d

-- A call whose arguments were expanded opens its frame: less is left than before its name was taken.
pub call_opens_falls : (levels n : ℕ) (m : Expander) (fs : List Frame)
    (r s : Reader) (opened : Macro) (call : CallPlace) (arguments : List (List Read)) → Tightens r s
    → IsNoMore (frame_of (suc levels) r) (most_open r) (regions m r) (one_more (regions_of fs (reads_left s))) → length opened.definition.body ≤ most_bodies r
    → n ≤ total (regions m r) → All (λ argument. length argument ≤ most_alone_at levels s n) arguments
    → length (new_frame opened call arguments ∷ fs) ≤ most_open s
    → work_of (suc levels) (record { held = None; frames = new_frame opened call arguments ∷ fs }) s < work_of (suc levels) m r
call_opens_falls levels n m fs r s opened call arguments tight room body low all few =
    let c = total (regions m r) in
    let fits : All (λ (argument : List Read). length argument ≤ most_alone_at levels r c) arguments =
    (λ k d inside. le_trans (all k d inside) (alone_least levels n c r s tight low)) in
    opened_work (suc levels) m (new_frame opened call arguments) fs r s tight room
    (call_steps levels c (most_bodies r) (most_open r) opened call arguments body fits) few

-- what tokens come to where fewer names and bodies are defined
pub alone_under : (levels bodies more_bodies names more_names n : ℕ) → bodies ≤ more_bodies → names ≤ more_names
    → most_tokens (frame_steps bodies names levels) names n ≤ most_tokens (frame_steps more_bodies more_names levels) more_names n
alone_under levels bodies more_bodies names more_names n low few =
    let frame = frame_steps bodies names levels in
    let wider = frame_steps more_bodies more_names levels in
    let level = frame_steps_level bodies names levels in
    iterate_least (growth frame names) (growth wider more_names) n n n n (steep_is_level (growth frame names) (grown_steep frame names level))
    (grown_up wider more_names)
    (grown_under frame wider names more_names level (frame_steps_under bodies more_bodies names more_names levels low few) few) (omega arith) (omega arith)
