use borrow.Author.Rules.{rules}
use Rattle.lists.specs.Lists.{first_where}
use Rattle.model.specs.Season.{sum_over, largest_slack, first_largest}
use Rattle.stream.proofs.totals.no_jobs.Goals as goal

pub returns : goal.returns
unfolding first_where sum_over largest_slack first_largest
returns c = search rules
