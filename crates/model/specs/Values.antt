-- The values that document 01 marks to be proved (●), in its order, with the steady rounds of request F-1 and the centres
-- of request F-3: what is asked, and what is to be given; after them the text that it prints for the 2 by 1 job, the text
-- for tapes that end too early (request F-6), the report's text for four seasons of that job (requests F-2 and F-6), a 2 by 2
-- job of our own, worked by hand, in which the order of the pairs tells, a 3 by 1 job whose pairs have weights of their own
-- (request F-7), and falls whose eighth is a half or just beyond. One theorem, `values` of proofs/Values.antt, says that the
-- definitions give it in every case (docs/SPECIFICATION.md, section 9).
use Rattle.std.specs.Prelude.{List, [], ◌∷◌, ◌++◌, ℕ, ◌*◌, ℤ, pos, neg_ℤ, take}
use Rattle.lists.specs.Lists.{zeros, chain}
use Rattle.model.specs.Grid.{Terms, grid}
use Rattle.model.specs.Rounds.{eighth, nearest_eighth, quick_rounds}
use Rattle.model.specs.Calls.{Rounds, checked, settled, spent, Answer, refusal, figures, pixels_of, pairs_of, check_answer, check_image, price_answer, run_answer, run_flow, run_image}
use Rattle.model.specs.Tape.{tape_of}
use Rattle.model.specs.Text.{ascii}
use Rattle.model.specs.Program.{program_text}
use Rattle.model.specs.Season.{season_text}

-- A check of a flow; the price of an image; a run with these rounds; the T that k quick rounds leave, Tₖ₊₁; the program's
-- text for the job's tape with these rounds and no flow; its text for so many bytes of that tape and others behind them; the
-- season report's text for so many such tapes and more bytes behind them; or what a quick and a steady round's step add for
-- a fall
pub data Asked : Type 0 where
  checking : List ℤ → Asked
  pricing : List ℤ → Asked
  running : ℕ → ℕ → Asked
  momentum : ℕ → Asked
  printing : ℕ → ℕ → Asked
  beginning : ℕ → ℕ → ℕ → List ℕ → Asked
  reporting : ℕ → ℕ → ℕ → List ℕ → Asked
  sharing : ℤ → Asked

-- What is given: the answer, the flow and the image that are left (no flow in a price); a T; bytes of text; or the two shares
pub data Given : Type 0 where
  call : Answer → List ℤ → List ℤ → Given
  number : ℕ → Given
  text : List ℕ → Given
  shares : ℤ → ℤ → Given

pub record Case : Type 0 where
  pub terms : Terms
  pub samples : List ℕ
  pub weights : List ℤ
  pub asked : Asked
  pub expected : Given

-- What the definitions give; the buffers that a call fills are lent full of zeros
unfoldable pub ask : Terms → List ℕ → List ℤ → Asked → Given
ask t samples weights (checking flow) =
    let image : List ℤ = zeros (pixels_of t) in
    call (check_answer t samples weights flow image) flow (check_image t samples weights flow image)
ask t samples weights (pricing image) = call (price_answer t samples weights image) [] image
ask t samples weights (running quick allowance) =
    let r : Rounds = record { quick = quick; allowance = allowance } in
    let flow : List ℤ = zeros (pairs_of t) in
    let image : List ℤ = zeros (pixels_of t) in
    let work : List ℤ = zeros (2 * pairs_of t) in
    call (run_answer t r samples weights flow image work) (run_flow t r samples weights flow image work)
    (run_image t r samples weights flow image work)
ask t samples weights (momentum k) = number (quick_rounds eighth (grid t samples weights) k).momentum
ask t samples weights (printing quick allowance) =
    text (program_text (tape_of t (record { quick = quick; allowance = allowance }) samples weights []))
ask t samples weights (beginning quick allowance count behind) =
    text (program_text (take count (tape_of t (record { quick = quick; allowance = allowance }) samples weights []) ++ behind))
ask t samples weights (reporting quick allowance times behind) =
    text
    (season_text (chain times (λ _. tape_of t (record { quick = quick; allowance = allowance }) samples weights []) ++ behind))
ask t samples weights (sharing d) = shares (eighth d) (nearest_eighth d)

-- The 2 by 1 job: samples 0 and 2, weight 256, box 0 to 255 (SPECIFICATION 9.1, 9.2, 9.9, 9.12, 9.13); a share
-- does not depend on it (9.11)
abbrev pub two_by_one : Asked → Given → Case
two_by_one a g =
    record {
      terms = record { width = 2; height = 1; weight = 256; low = 0; high = 255 };
      samples = 0 ∷ 2 ∷ [];
      weights = [];
      asked = a;
      expected = g;
    }

-- Samples 0 and 20, weight 1280, box 8 to 12 (SPECIFICATION 9.3)
abbrev pub narrow_box : Asked → Given → Case
narrow_box a g =
    record {
      terms = record { width = 2; height = 1; weight = 1280; low = 8; high = 12 };
      samples = 0 ∷ 20 ∷ [];
      weights = [];
      asked = a;
      expected = g;
    }

-- 1 by 1, sample 7, other terms as in the 2 by 1 job (SPECIFICATION 9.4)
abbrev pub one_pixel : Asked → Given → Case
one_pixel a g =
    record {
      terms = record { width = 1; height = 1; weight = 256; low = 0; high = 255 };
      samples = 7 ∷ [];
      weights = [];
      asked = a;
      expected = g;
    }

-- 2 by 2, samples 0, 10, 20 and 40, weight 256, box 0 to 255: its pairs are (0, 2), (1, 3), (0, 1), (2, 3)
-- (SPECIFICATION 9.5)
abbrev pub two_by_two : Asked → Given → Case
two_by_two a g =
    record {
      terms = record { width = 2; height = 2; weight = 256; low = 0; high = 255 };
      samples = 0 ∷ 10 ∷ 20 ∷ 40 ∷ [];
      weights = [];
      asked = a;
      expected = g;
    }

-- 3 by 1, samples 0, 2 and 10, weight 256, box 0 to 255, with these pair weights: at 0 and 512 the first pair is a joint and
-- the second one is smoothed beyond the terms' weight (SPECIFICATION 9.14)
abbrev pub three_by_one : List ℤ → Asked → Given → Case
three_by_one weights a g =
    record {
      terms = record { width = 3; height = 1; weight = 256; low = 0; high = 255 };
      samples = 0 ∷ 2 ∷ 10 ∷ [];
      weights = weights;
      asked = a;
      expected = g;
    }

abbrev pub pair : ℕ → ℕ → List ℤ
pair a b = pos a ∷ pos b ∷ []

abbrev pub triple : ℕ → ℕ → ℕ → List ℤ
triple a b c = pos a ∷ pos b ∷ pos c ∷ []

abbrev pub one : ℤ → List ℤ
one f = f ∷ []

unfoldable pub cases : List Case
cases =
    two_by_one (checking (one (pos 0)))
    (call (figures checked 0 (pos 262144) (pos 0) (pos 262144)) (one (pos 0)) (pair 128 640))
    ∷ two_by_one (checking (one (neg_ℤ (pos 256))))
    (call (figures checked 0 (pos 131072) (pos 131072) (pos 0)) (one (neg_ℤ (pos 256))) (pair 384 384))
    ∷ two_by_one (checking (one (pos 256)))
    (call (figures checked 0 (pos 540672) (neg_ℤ (pos 376832)) (pos 917504)) (one (pos 256)) (pair 0 896))
    ∷ two_by_one (checking (one (pos 257))) (call (refusal 8 0) (one (pos 257)) (pair 0 0))
    ∷ two_by_one (running 0 16)
    (call (figures spent 16 (pos 131090) (pos 131054) (pos 36)) (one (neg_ℤ (pos 253))) (pair 381 387))
    ∷ two_by_one (running 0 17)
    (call (figures settled 17 (pos 131080) (pos 131064) (pos 16)) (one (neg_ℤ (pos 254))) (pair 382 386))
    ∷ two_by_one (momentum 1) (number 106039)
    ∷ two_by_one (momentum 2) (number 143754)
    ∷ two_by_one (running 3 0)
    (call (figures spent 0 (pos 150674) (pos 111470) (pos 39204)) (one (neg_ℤ (pos 157))) (pair 285 483))
    ∷ narrow_box (checking (one (pos 0)))
    (call (figures checked 0 (pos 10650881) (pos 7376641) (pos 3274240)) (one (pos 0)) (pair 2048 3327))
    ∷ narrow_box (checking (one (neg_ℤ (pos 1280))))
    (call (figures checked 0 (pos 10650881) (pos 10650881) (pos 0)) (one (neg_ℤ (pos 1280))) (pair 2048 3327))
    ∷ one_pixel (running 0 100) (call (figures settled 0 (pos 0) (pos 0) (pos 0)) [] (pos 1920 ∷ []))
    ∷ two_by_one (printing 0 100) (text (ascii "outcome moved price floor slack\nsettled 17 131080 131064 16\n382 386\n"))
    ∷ two_by_one (beginning 0 100 0 []) (text (ascii "refused 18 at 0\n"))
    ∷ two_by_one (beginning 0 100 4 []) (text (ascii "refused 13 at 0\n"))
    ∷ two_by_one (beginning 0 100 5 []) (text (ascii "refused 18 at 5\n"))
    ∷ two_by_one (beginning 0 100 6 []) (text (ascii "refused 13 at 5\n"))
    ∷ two_by_one (beginning 0 100 18 []) (text (ascii "refused 13 at 17\n"))
    ∷ two_by_one (beginning 0 100 19 []) (text (ascii "refused 18 at 19\n"))
    ∷ two_by_one (beginning 0 100 5 (7 ∷ [])) (text (ascii "refused 12 at 5\n"))
    ∷ two_by_one (beginning 0 100 5 (1 ∷ [])) (text (ascii "refused 14 at 5\n"))
    ∷ two_by_one (reporting 0 100 1 [])
    (text (ascii "jobs 1\npixels 2\nsettled 1\nspent 0\nchecked 0\ntotal 16\nlargest 16 1\nmean 8 0\n"))
    ∷ two_by_one (reporting 0 100 0 [])
    (text (ascii "jobs 0\npixels 0\nsettled 0\nspent 0\nchecked 0\ntotal 0\nlargest 0 0\nmean 0 0\n"))
    ∷ two_by_one (reporting 0 16 2 (1 ∷ 2 ∷ []))
    (text (ascii "jobs 2\npixels 4\nsettled 0\nspent 2\nchecked 0\ntotal 72\nlargest 36 1\nmean 18 0\njob 3 refused 13 at 0\n"))
    ∷ two_by_one (reporting 0 16 2 (1 ∷ 2 ∷ 0 ∷ 1 ∷ 0 ∷ []))
    (text (ascii "jobs 2\npixels 4\nsettled 0\nspent 2\nchecked 0\ntotal 72\nlargest 36 1\nmean 18 0\njob 3 refused 18 at 5\n"))
    ∷ two_by_two (checking (pos 1 ∷ pos 2 ∷ pos 4 ∷ pos 8 ∷ []))
    (call (figures checked 0 (pos 10501298) (neg_ℤ (pos 143538)) (pos 10644836)) (pos 1 ∷ pos 2 ∷ pos 4 ∷ pos 8 ∷ [])
    (pos 123 ∷ pos 2690 ∷ pos 5241 ∷ pos 10378 ∷ []))
    ∷ three_by_one (pair 0 512) (checking (pair 0 0))
    (call (figures checked 0 (pos 2097152) (pos 0) (pos 2097152)) (pair 0 0) (triple 128 640 2688))
    ∷ three_by_one (pair 0 512) (checking (pos 0 ∷ neg_ℤ (pos 512) ∷ []))
    (call (figures checked 0 (pos 1572864) (pos 1572864) (pos 0)) (pos 0 ∷ neg_ℤ (pos 512) ∷ []) (triple 128 1152 2176))
    ∷ three_by_one (pair 0 512) (checking (pair 1 0)) (call (refusal 8 0) (pair 1 0) (triple 0 0 0))
    ∷ three_by_one (pair 0 512) (checking (pair 0 513)) (call (refusal 8 1) (pair 0 513) (triple 0 0 0))
    ∷ three_by_one (pair 0 65281) (checking (pair 1 0)) (call (refusal 2 1) (pair 1 0) (triple 0 0 0))
    ∷ three_by_one (one (pos 0)) (checking (pair 0 0)) (call (refusal 19 0) (pair 0 0) (triple 0 0 0))
    ∷ three_by_one (one (pos 0)) (checking (one (pos 0))) (call (refusal 5 0) (one (pos 0)) (triple 0 0 0))
    ∷ three_by_one (pair 0 65281) (checking (one (pos 0))) (call (refusal 5 0) (one (pos 0)) (triple 0 0 0))
    ∷ three_by_one (pair 0 512) (pricing (triple 128 640 2688))
    (call (figures checked 0 (pos 2097152) (pos 0) (pos 0)) [] (triple 128 640 2688))
    ∷ three_by_one (pair 0 65281) (pricing (triple 65536 640 2688)) (call (refusal 2 1) [] (triple 65536 640 2688))
    ∷ three_by_one (pair 0 512) (running 0 100)
    (call (figures settled 3 (pos 1572864) (pos 1572864) (pos 0)) (pos 0 ∷ neg_ℤ (pos 512) ∷ []) (triple 128 1152 2176))
    ∷ three_by_one [] (running 0 100)
    (call (figures settled 5 (pos 1179648) (pos 1179648) (pos 0)) (neg_ℤ (pos 256) ∷ neg_ℤ (pos 256) ∷ []) (triple 384 640 2432))
    ∷ three_by_one (pair 0 512) (printing 0 100)
    (text (ascii "outcome moved price floor slack\nsettled 3 1572864 1572864 0\n128 1152 2176\n"))
    ∷ three_by_one (pair 0 512) (beginning 0 100 21 (6 ∷ 1 ∷ 255 ∷ [])) (text (ascii "refused 2 at 21\n"))
    ∷ three_by_one (pair 0 512) (beginning 0 100 24 (0 ∷ [])) (text (ascii "refused 14 at 24\n"))
    ∷ three_by_one (pair 0 512) (beginning 0 100 26 []) (text (ascii "refused 13 at 24\n"))
    ∷ three_by_one (pair 0 512) (beginning 0 100 27 (5 ∷ 1 ∷ 0 ∷ 0 ∷ 0 ∷ 5 ∷ 0 ∷ 0 ∷ 0 ∷ 0 ∷ 0 ∷ [])) (text (ascii "refused 8 at 0\n"))
    ∷ three_by_one (pair 0 512) (beginning 0 100 27 (5 ∷ 0 ∷ 0 ∷ 0 ∷ 0 ∷ 5 ∷ 0 ∷ 254 ∷ 255 ∷ 255 ∷ 0 ∷ []))
    (text (ascii "outcome moved price floor slack\nchecked 0 1572864 1572864 0\n128 1152 2176\n"))
    ∷ three_by_one (pair 0 512) (beginning 0 100 21 (5 ∷ 0 ∷ 0 ∷ 0 ∷ 0 ∷ 5 ∷ 0 ∷ 0 ∷ 0 ∷ 0 ∷ 6 ∷ [])) (text (ascii "refused 14 at 31\n"))
    ∷ two_by_one (sharing (pos 4)) (shares (pos 0) (pos 0))
    ∷ two_by_one (sharing (pos 5)) (shares (pos 0) (pos 1))
    ∷ two_by_one (sharing (pos 12)) (shares (pos 1) (pos 1))
    ∷ two_by_one (sharing (pos 13)) (shares (pos 1) (pos 2))
    ∷ two_by_one (sharing (neg_ℤ (pos 4))) (shares (pos 0) (pos 0))
    ∷ two_by_one (sharing (neg_ℤ (pos 5))) (shares (pos 0) (neg_ℤ (pos 1)))
    ∷ two_by_one (sharing (neg_ℤ (pos 12))) (shares (neg_ℤ (pos 1)) (neg_ℤ (pos 1)))
    ∷ two_by_one (sharing (neg_ℤ (pos 13))) (shares (neg_ℤ (pos 1)) (neg_ℤ (pos 2)))
    ∷ []
