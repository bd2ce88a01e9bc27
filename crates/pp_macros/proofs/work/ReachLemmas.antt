-- The bound of how much work tokens make: how it compares, and that it falls.
use Rattle.std.proofs.Common.{◌≡◌, ℕ, zero, suc, ◌+◌, ◌*◌, ◌-◌, ◌<◌, ◌≤◌, List, [], ◌∷◌, length, arith, le_trans, lt_of_le_of_lt, lt_of_lt_of_le, ap, sym, refl, mul-le-mul}
use Rattle.std.specs.Fn.{iterate}
use Rattle.pp_macros.specs.inner.Reach.{growth, through, total, most_tokens, frame_steps, HasRoom, OpenedFalls}
use Rattle.pp_macros.proofs.work.IterateLemmas.{IsSteep, IsUp, IsLevel, IsUnder, steep_is_level, iterate_steep, iterate_up, iterate_more, iterate_least}

-- each token makes more
pub grown_up : (frame : ℕ → ℕ) (names : ℕ) → IsUp (growth frame names)
grown_up frame zero m = omega arith
grown_up frame (suc names) m =
    let h : m + frame m ≤ iterate (growth frame names) (frame m) (m + frame m) = iterate_up (growth frame names) (frame m) (grown_up frame names) (m + frame m) in
    omega arith

pub grown_some : (frame : ℕ → ℕ) (names m : ℕ) → m < growth frame names m
grown_some frame zero m = omega arith
grown_some frame (suc names) m =
    let h : m + frame m ≤ iterate (growth frame names) (frame m) (m + frame m) = iterate_up (growth frame names) (frame m) (grown_up frame names) (m + frame m) in
    omega arith

pub grown_steep : (frame : ℕ → ℕ) (names : ℕ) → IsLevel frame → IsSteep (growth frame names)
grown_steep frame zero level m n less = omega arith
grown_steep frame (suc names) level m n less =
    let g = growth frame names in
    let wide : frame m ≤ frame n = level m n (omega arith) in
    let first : iterate g (frame m) (m + frame m) < iterate g (frame m) (n + frame n) =
    iterate_steep g (frame m) (grown_steep frame names level) (m + frame m) (n + frame n) (omega arith) in
    let second : iterate g (frame m) (n + frame n) ≤ iterate g (frame n) (n + frame n) =
    iterate_more g (frame m) (frame n) (n + frame n) (grown_up frame names) wide in
    omega arith

pub grown_under : (frame wider : ℕ → ℕ) (names more : ℕ) → IsLevel frame → IsUnder frame wider → names ≤ more → IsUnder (growth frame names) (growth wider more)
grown_under frame wider zero more level under few m = let h = grown_some wider more m in omega arith
grown_under frame wider (suc names) zero level under few m = absurd (omega arith)
grown_under frame wider (suc names) (suc more) level under few m =
    let low : frame m ≤ wider m = under m in
    let h : iterate (growth frame names) (frame m) (m + frame m) ≤ iterate (growth wider more) (wider m) (m + wider m) =
    iterate_least (growth frame names) (growth wider more) (frame m) (wider m) (m + frame m) (m + wider m)
    (steep_is_level (growth frame names) (grown_steep frame names level)) (grown_up wider more)
    (grown_under frame wider names more level under (omega arith)) low (omega arith) in
    omega arith

-- what comes of all regions grows with what is at hand
pub through_steep : (frame : ℕ → ℕ) (names : ℕ) (regions : List ℕ) → IsLevel frame → IsSteep (through frame names regions)
through_steep frame names [] level m n less = less
through_steep frame names (s ∷ regions) level m n less =
    through_steep frame names regions level _ _ (iterate_steep (growth frame (names - length regions)) s
    (grown_steep frame (names - length regions) level) m n less)

pub through_under : (frame wider : ℕ → ℕ) (names more : ℕ) (regions : List ℕ) → IsLevel frame → IsLevel wider → IsUnder frame wider → names ≤ more
    → IsUnder (through frame names regions) (through wider more regions)
through_under frame wider names more [] level flat under few m = omega arith
through_under frame wider names more (s ∷ regions) level flat under few m =
    let there = names - length regions in
    let here = more - length regions in
    let h : iterate (growth frame there) s m ≤ iterate (growth wider here) s m =
    iterate_least (growth frame there) (growth wider here) s s m m (steep_is_level (growth frame there) (grown_steep frame there level))
    (grown_up wider here) (grown_under frame wider there here level under (omega arith)) (omega arith) (omega arith) in
    le_trans (steep_is_level (through frame names regions) (through_steep frame names regions level) _ _ h)
    (through_under frame wider names more regions level flat under few (iterate (growth wider here) s m))

pub through_up : (frame : ℕ → ℕ) (names : ℕ) (regions : List ℕ) → IsUp (through frame names regions)
through_up frame names [] m = omega arith
through_up frame names (s ∷ regions) m =
    le_trans (iterate_up (growth frame (names - length regions)) s (grown_up frame (names - length regions)) m)
    (through_up frame names regions (iterate (growth frame (names - length regions)) s m))

-- no less comes of a bound that is wider in every way
pub through_least : (frame wider : ℕ → ℕ) (names more c d : ℕ) (regions : List ℕ) → IsLevel frame → IsLevel wider → IsUnder frame wider
    → names ≤ more → c ≤ d → through frame names regions c ≤ through wider more regions d
through_least frame wider names more c d regions level flat under few low =
    le_trans (steep_is_level (through frame names regions) (through_steep frame names regions level) c d low)
    (through_under frame wider names more regions level flat under few d)

-- frames of more have more steps
pub most_level : (frame : ℕ → ℕ) (names : ℕ) → IsLevel frame → IsLevel (most_tokens frame names)
most_level frame names level m n low =
    iterate_least (growth frame names) (growth frame names) m n m n (steep_is_level (growth frame names) (grown_steep frame names level))
    (grown_up frame names) (λ k. omega arith) low low

pub frame_steps_level : (bodies names levels : ℕ) → IsLevel (frame_steps bodies names levels)
frame_steps_level bodies names zero m n low = omega arith
frame_steps_level bodies names (suc levels) m n low =
    let frame = frame_steps bodies names levels in
    let h : most_tokens frame names m ≤ most_tokens frame names n = most_level frame names (frame_steps_level bodies names levels) m n low in
    let g : bodies * (most_tokens frame names m + 2) ≤ bodies * (most_tokens frame names n + 2) = mul-le-mul (omega arith) (omega arith) in
    omega arith

pub frame_steps_under : (bodies more_bodies names more_names levels : ℕ) → bodies ≤ more_bodies → names ≤ more_names
    → IsUnder (frame_steps bodies names levels) (frame_steps more_bodies more_names levels)
frame_steps_under bodies more_bodies names more_names zero low few m = let g : bodies * 2 ≤ more_bodies * 2 = mul-le-mul low (omega arith) in omega arith
frame_steps_under bodies more_bodies names more_names (suc levels) low few m =
    let frame = frame_steps bodies names levels in
    let wider = frame_steps more_bodies more_names levels in
    let level = frame_steps_level bodies names levels in
    let under = frame_steps_under bodies more_bodies names more_names levels low few in
    let h : most_tokens frame names m ≤ most_tokens wider more_names m =
    iterate_least (growth frame names) (growth wider more_names) m m m m (steep_is_level (growth frame names) (grown_steep frame names level))
    (grown_up wider more_names) (grown_under frame wider names more_names level under few) (omega arith) (omega arith) in
    let g : bodies * (most_tokens frame names m + 2) ≤ more_bodies * (most_tokens wider more_names m + 2) = mul-le-mul low (omega arith) in
    omega arith

-- a frame that opens is less than one step of the region below it
pub opened_below : (frame : ℕ → ℕ) (names c bound g s : ℕ) (regions : List ℕ) → IsLevel frame → HasRoom frame names c bound s regions → g ≤ frame c
    → length (s ∷ regions) ≤ names
    → through frame names (g ∷ s ∷ regions) (g + c) < bound
opened_below frame names c bound g s regions level room low few = go (names - length (s ∷ regions)) (names - length regions) refl refl
  where
    go : (j k : ℕ) → j ≡ names - length (s ∷ regions) → k ≡ names - length regions → through frame names (g ∷ s ∷ regions) (g + c) < bound
    go j zero e f = absurd (omega arith)
    go j (suc k) e f =
        let same : j ≡ k = omega arith in
        let there : growth frame (names - length regions) ≡ growth frame (suc k) = ap (λ n. growth frame n) (sym f) in
        let inner : iterate (growth frame (names - length (s ∷ regions))) g (g + c) ≤ iterate (growth frame k) (frame c) (c + frame c) =
        rw (← e, same) (iterate_least (growth frame k) (growth frame k) g (frame c) (g + c) (c + frame c)
        (steep_is_level (growth frame k) (grown_steep frame k level)) (grown_up frame k) (λ n. omega arith) low (omega arith)) in
        let less : iterate (growth frame (names - length (s ∷ regions))) g (g + c) < growth frame (names - length regions) c = rw there (omega arith) in
        lt_of_lt_of_le (through_steep frame names (s ∷ regions) level _ _ less) room.number

pub opened_falls : OpenedFalls
opened_falls bodies names levels bodies_then names_then c bound g s regions low few room fits room_left =
    let frame = frame_steps bodies names levels in
    let frame_then = frame_steps bodies_then names_then levels in
    let level = frame_steps_level bodies names levels in
    let level_then = frame_steps_level bodies_then names_then levels in
    lt_of_le_of_lt
    (through_least frame_then frame names_then names (total (g ∷ s ∷ regions)) (g + c) (g ∷ s ∷ regions) level_then level
    (frame_steps_under bodies_then bodies names_then names levels low few) few (omega (arith, room.least)))
    (opened_below frame names c bound g s regions level room fits room_left)
