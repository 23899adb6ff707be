-- The definitions give every value that document 01 marks to be proved: one test over the whole table, computed.
-- Assumes nothing.
use mathlib.Core.Path.{◌≡◌, refl}
use mathlib.Core.List.{map}
use Rattle.integers.specs.Whole.{clamp, nearest}
use Rattle.integers.specs.Sum.{total}
use Rattle.lists.specs.Lists.{table, chain, first_where}
use Rattle.model.specs.Problem.{fall, misfit, price, pull, image, floor, slack}
use Rattle.model.specs.Grid.{size_allowed, weight_allowed, pair_weight_allowed, weight_of, box_allowed, reading_of, low_end, high_end, vertical_pairs, horizontal_pairs, grid_pairs}
use Rattle.model.specs.Root.{root_by, root}
use Rattle.model.specs.Rounds.{eighth, nearest_eighth, stepped, step, next_momentum, extrapolate, quick_start, quick_round, quick_rounds, would_move, first_moving, steady_rounds}
use Rattle.model.specs.Verdict.{first_refusal}
use Rattle.model.specs.Calls.{first_over, first_beyond, first_outside, image_of, figures_of, check_verdict, check_answer, check_image, price_verdict, price_answer, quick_flow, ending, run_verdict, run_answer, run_flow, run_image}
use Rattle.model.specs.Tape.{kinds, record_rows, parse_from, parse, tape_of}
use Rattle.model.specs.Text.{ascii, decimal_by, decimal, signed_decimal}
use Rattle.model.specs.Program.{refusal_text, figures_text, image_text, answer_text, job_answer, job_image, program_text}
use Rattle.model.specs.Season.{first_job, bytes_of, season_from, sum_over, largest_slack, first_largest, totals_text, ending_text, season_text}
use Rattle.model.specs.Values.{Case, ask, cases}

pub values : map (λ (c : Case). ask c.terms c.samples c.weights c.asked) cases ≡ map (λ (c : Case). c.expected) cases
unfolding clamp nearest total table chain first_where fall misfit price pull image floor slack size_allowed weight_allowed pair_weight_allowed weight_of box_allowed reading_of low_end high_end vertical_pairs horizontal_pairs grid_pairs root_by root eighth nearest_eighth stepped step next_momentum extrapolate quick_start quick_round quick_rounds would_move first_moving steady_rounds first_refusal first_over first_beyond first_outside image_of figures_of check_verdict check_answer check_image price_verdict price_answer quick_flow ending run_verdict run_answer run_flow run_image kinds record_rows parse_from parse tape_of ascii decimal_by decimal signed_decimal refusal_text figures_text image_text answer_text job_answer job_image program_text first_job bytes_of season_from sum_over largest_slack first_largest totals_text ending_text season_text ask cases
values = refl
