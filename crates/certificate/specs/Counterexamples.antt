-- Demand 3 and request F-5 altered: each row of the table has one of their statements at a job and, beside it, the
-- statement altered. One theorem, `counterexamples` of proofs/Counterexamples.antt, says that in every row the first holds
-- and the second fails, and that the bounds listed last are met exactly.
--
-- What holds, and so has no row: 17 for 16; in the distance law and of two flows, the slack taken before the clamp (a fall
-- is no larger after the clamp, so neither is the slack); and 3 to 8 for the 2 of request F-1's rule, of which 8 is promised
-- beside it. 8 × moved meets the starting slack only where both are 0 (by hand, not proved here): where every round raises
-- the floor by 8 and no more, each moves the image by the pull of its change, so that the last image is not the first, and
-- the distance law adds their squared distance, 2 or more.
use Rattle.std.specs.Prelude.{Bool, List, [], ◌∷◌, ◌++◌, ℕ, ◌+◌, ◌*◌, ℤ, pos, neg_ℤ, ◌+ℤ◌, ◌*ℤ◌}
use Rattle.integers.specs.Whole.{quotient, same_z}
use Rattle.lists.specs.Lists.{at}
use Rattle.model.specs.Problem.{Problem, price, weight_sum, image, floor, slack, distance, divided, times}
use Rattle.model.specs.Rounds.{nearest_eighth}
use Rattle.certificate.specs.Statements.{start, ahead, run, eighth_down, eighth_away, close, certified, alike, alike_at_zero, near, within_slacks, equal_at_zero, times_as_large, settled_within, moved_within, settles_when}
use Rattle.certificate.specs.Jobs.{scan_two_by_one, scan_two_by_two, scan_row, scan_three_by_three, readings_four_by_one, scan_three_by_one, scan_joint, flow, flows, other}

-- A statement and the same altered, each as a test that computes
pub record Alteration : Type 0 where
  pub statement : Bool
  pub altered : Bool

abbrev pub beside : Bool → Bool → Alteration
beside s a = record { statement = s; altered = a }

-- The distance law, and equal prices at slack 0
unfoldable pub distance_rows : List Alteration
distance_rows =
    let p : Problem = scan_two_by_one 256 0 255 in
    let narrow : Problem = scan_two_by_one 7 3 3 in
    let light : Problem = scan_two_by_one 70 0 255 in
    let f : ℕ → ℤ = flow (pos 0) in
    let g : ℕ → ℤ = flow (neg_ℤ (pos 252)) in
    -- half the slack
    beside (certified p f (other 384 384)) (close (quotient (slack p f) (pos 2)) p (image p f) (other 384 384))
    -- the image before the clamp: 128 640, as in the wider box, for 768 768
    ∷ beside (certified narrow f (other 768 768)) (close (slack narrow f) narrow (image p f) (other 768 768))
    -- an image outside the box
    ∷ beside (certified narrow f (other 768 768)) (certified narrow f (other 128 640))
    -- R certified: P is −70 with slack 0, R is −71 with slack −740
    ∷ beside (certified light (start light 2) (other 198 570)) (certified light (ahead light 2) (other 198 570))
    -- the weight left out of price and slack: 64 at weight 256, −4016 at weight 1
    ∷ beside (certified p g (other 380 388)) (certified (scan_two_by_one 1 0 255) g (other 380 388))
    -- equal prices said to mean equal images at any slack: at slack 262144, where the statement claims nothing, the image
    -- 128 640 has the price of 128 128
    ∷ beside (alike_at_zero p f (other 128 128)) (alike p f (other 128 128))
    ∷ []

-- Two flows of one job. The 3 by 1 job has the images 128 896 896 and 384 384 1152 of squared distance 393216, with slack
-- 393216 each; the 2 by 1 job 384 384 with slack 0, and 128 640 with slack 262144
unfoldable pub two_flows_rows : List Alteration
two_flows_rows =
    let three : Problem = scan_three_by_one in
    let f : ℕ → ℤ = flows (pos 0) (neg_ℤ (pos 256)) in
    let g : ℕ → ℤ = flows (neg_ℤ (pos 256)) (pos 0) in
    let p : Problem = scan_two_by_one 256 0 255 in
    let best : ℕ → ℤ = flow (neg_ℤ (pos 256)) in
    let none : ℕ → ℤ = flow (pos 0) in
    let narrow : Problem = scan_two_by_one 7 3 3 in
    let down : ℕ → ℤ = flow (pos 7) in
    let up : ℕ → ℤ = flow (neg_ℤ (pos 7)) in
    let light : Problem = scan_two_by_one 70 0 255 in
    let behind : ℕ → ℤ = flow (neg_ℤ (pos 69)) in
    -- 3 × the distance
    beside (within_slacks three f three g) (near 3 (slack three f +ℤ slack three g) three (image three f) (image three g))
    -- one slack only, whichever
    ∷ beside (within_slacks three f three g) (near 2 (slack three f) three (image three f) (image three g))
    ∷ beside (within_slacks three f three g) (near 2 (slack three g) three (image three f) (image three g))
    -- the sum halved
    ∷ beside (within_slacks p best p none)
    (near 2 (quotient (slack p best +ℤ slack p none) (pos 2)) p (image p best) (image p none))
    -- two flows of two jobs, both with slack 0: another scan, image 384 896; another weight, 128 640; another box, 768 768
    ∷ beside (within_slacks p best p none) (within_slacks p best (scan_row 256 2 (0 ∷ 4 ∷ [])) best)
    ∷ beside (within_slacks p best p none) (within_slacks p best (scan_two_by_one 0 0 255) none)
    ∷ beside (within_slacks p best p none) (within_slacks p best (scan_two_by_one 256 3 3) none)
    -- equal images said to follow from one slack of 0
    ∷ beside (equal_at_zero (slack p best) (slack p none) p best none) (equal_at_zero (slack p best) (slack p best) p best none)
    -- the images before the clamp: 121 647 and 135 633, as in the wider box, for 768 768 with slack 0 both
    ∷ beside (within_slacks narrow down narrow up)
    (near 2 (slack narrow down +ℤ slack narrow up) narrow (image p down) (image p up))
    -- R for P, which are −71 and −70 as above: 4 ≤ 0 + 748, but not 16 ≤ −740 + 748
    ∷ beside (within_slacks light (start light 2) light behind) (within_slacks light (ahead light 2) light behind)
    ∷ []

-- On division 3, the flow −252 with price 131104, floor 131040 and slack 64
unfoldable pub division_rows : List Alteration
division_rows =
    let p : Problem = scan_two_by_one 256 0 255 in
    let q : Problem = divided 3 p in
    let f : ℕ → ℤ = flow (neg_ℤ (pos 252)) in
    let g : ℕ → ℤ = times 3 f in
    let best : ℕ → ℤ = flow (neg_ℤ (pos 256)) in
    let x : ℕ → ℤ = image q g in
    let y : ℕ → ℤ = image q (times 3 best) in
    -- k for k²
    beside (times_as_large 9 (price q (image q g)) (price p (image p f)))
    (times_as_large 3 (price q (image q g)) (price p (image p f)))
    ∷ beside (times_as_large 9 (floor q g) (floor p f)) (times_as_large 3 (floor q g) (floor p f))
    ∷ beside (times_as_large 9 (slack q g) (slack p f)) (times_as_large 3 (slack q g) (slack p f))
    -- the slack of the grid itself, against the image 1152 1152
    ∷ beside (certified q g (other 1152 1152)) (close (slack p f) q (image q g) (other 1152 1152))
    -- of two flows, 2 × squared distance and the sum of the slacks, 64 on the grid and 576 there
    ∷ beside (times_as_large 9 (distance q x y) (distance p (image p f) (image p best)))
    (times_as_large 3 (distance q x y) (distance p (image p f) (image p best)))
    ∷ beside (within_slacks q g q (times 3 best)) (near 2 (slack p f +ℤ slack p best) q x y)
    ∷ []

-- A settled slack is at most 16 × the sum of the weights; where each is the terms' weight, 16 × weight × pairs
unfoldable pub settled_rows : List Alteration
settled_rows =
    let p : Problem = scan_two_by_one 256 0 255 in
    let q : Problem = scan_two_by_one 258 0 255 in
    let two : Problem = scan_two_by_two 258 in
    let narrow : Problem = scan_two_by_one 256 3 3 in
    let joint : Problem = scan_joint in
    -- 15 for 16: seven quick rounds leave the flow −258 and the image 386 382, whose fall of 4 does not move it back
    beside (settled_within (16 * (258 * 1)) q (run q 7 0)) (settled_within (15 * (258 * 1)) q (run q 7 0))
    -- the weight left out
    ∷ beside (settled_within (16 * (258 * 1)) q (run q 7 0)) (settled_within (16 * 1) q (run q 7 0))
    -- the pairs left out: two of the four have the fall of 4
    ∷ beside (settled_within (16 * (258 * 4)) two (run two 7 0)) (settled_within (16 * 258) two (run two 7 0))
    -- the slack before the clamp: settled at flow 0 with slack 0, but 262144 in the wider box
    ∷ beside (settled_within (16 * (256 * 1)) narrow (run narrow 0 0)) (settled_within (16 * (256 * 1)) p (run narrow 0 0))
    -- the largest weight left out of the sum 0 + 258
    ∷ beside (settled_within (16 * (0 + 258)) joint (run joint 7 0)) (settled_within (16 * 0) joint (run joint 7 0))
    -- the terms' weight × pairs for the sum
    ∷ beside (settled_within (16 * (0 + 258)) joint (run joint 7 0)) (settled_within (16 * (1 * 2)) joint (run joint 7 0))
    ∷ []

-- 8 × moved is at most the slack of the flow that the quick rounds leave
unfoldable pub moved_rows : List Alteration
moved_rows =
    let p : Problem = scan_two_by_one 125 0 255 in
    let q : Problem = scan_three_by_three in
    let r : Problem = readings_four_by_one in
    -- the slack of R: P is −112 with slack 7488, R is −125 with slack 0, and one round moves
    beside (moved_within 8 p (start p 2) (run p 2 1)) (moved_within 8 p (ahead p 2) (run p 2 1))
    -- 11 for 8: one quick round leaves slack 10, and one round moves
    ∷ beside (moved_within 8 q (start q 1) (run q 1 1)) (moved_within 11 q (start q 1) (run q 1 1))
    -- 9 for 8, of the law for any readings (a search found no run of a job below 11): slack 26, and three rounds move a
    -- pair each. Longer rows of such readings have slack 8 × k + 2 for k rounds
    ∷ beside (moved_within 8 r (start r 0) (run r 0 3)) (moved_within 9 r (start r 0) (run r 0 3))
    ∷ []

-- A run settles whenever 2 × (allowance + 1) exceeds that slack, and already when 8 × (allowance + 1) does
unfoldable pub settles_rows : List Alteration
settles_rows =
    let p : Problem = scan_row 1 3 (0 ∷ 0 ∷ 2 ∷ []) in
    let four : Problem = scan_row 1 4 (0 ∷ 0 ∷ 0 ∷ 2 ∷ []) in
    let q : Problem = scan_three_by_three in
    let r : Problem = readings_four_by_one in
    -- d / 8 rounded away from zero in steady rounds: one quick round leaves the flow 0 −1, with slack 2 and a fall of −1,
    -- which then moves, to a fall of 1, and back
    beside (settles_when 2 nearest_eighth p 1 1) (settles_when 2 eighth_away p 1 1)
    -- d / 8 rounded down: one quick round leaves the flow 0 0 −1, with slack 2, and two rounds move
    ∷ beside (settles_when 2 nearest_eighth four 1 1) (settles_when 2 eighth_down four 1 1)
    -- 11 and 9 for 8: the runs above, with one round fewer; at these slacks, 10 and 26, the statement claims nothing
    ∷ beside (settles_when 8 nearest_eighth q 1 0) (settles_when 11 nearest_eighth q 1 0)
    ∷ beside (settles_when 8 nearest_eighth r 0 2) (settles_when 9 nearest_eighth r 0 2)
    ∷ []

unfoldable pub rows : List Alteration
rows = distance_rows ++ two_flows_rows ++ division_rows ++ settled_rows ++ moved_rows ++ settles_rows

-- Bounds met exactly
unfoldable pub met_exactly : List Bool
met_exactly =
    let p : Problem = scan_two_by_one 256 0 255 in
    let q : Problem = scan_two_by_one 258 0 255 in
    let three : Problem = scan_three_by_one in
    let joint : Problem = scan_joint in
    let f : ℕ → ℤ = flow (pos 0) in
    let g : ℕ → ℤ = flow (neg_ℤ (pos 256)) in
    let h : ℕ → ℤ = at (run p 0 100).flow in
    let u : ℕ → ℤ = flows (pos 0) (neg_ℤ (pos 256)) in
    let v : ℕ → ℤ = flows (neg_ℤ (pos 256)) (pos 0) in
    -- price + squared distance = other price + slack, 393216
    same_z (price p (image p f) +ℤ distance p (image p f) (other 384 384)) (price p (other 384 384) +ℤ slack p f)
    -- slack 0, equal prices and equal images
    ∷ same_z (slack p g) (pos 0)
    ∷ same_z (price p (image p g)) (price p (other 384 384))
    ∷ same_z (distance p (image p g) (other 384 384)) (pos 0)
    -- 2 × squared distance = sum of the slacks: 16 + 0, with the flow that the 2 by 1 job settles at; and 393216 + 393216,
    -- where neither is 0
    ∷ same_z (pos 2 *ℤ distance p (image p h) (image p g)) (slack p h +ℤ slack p g)
    ∷ same_z (pos 2 *ℤ distance three (image three u) (image three v)) (slack three u +ℤ slack three v)
    -- the slack of a settled run = 16 × weight × pairs, 4128
    ∷ same_z (slack q (at (run q 7 0).flow)) (pos (16 * (258 * 1)))
    -- .. = 16 × the sum of the weights 0 and 258
    ∷ same_z (slack joint (at (run joint 7 0).flow)) (pos 16 *ℤ weight_sum joint)
    ∷ []
