-- `check_table::search_group` meets its contract: each group's search is that of its constraints over its rows. Assumes nothing.
use Rattle.check_search.proofs.Steps.{initial_searched}
use Rattle.check_table.proofs.search_group.Goals as goal

pub returns-in-Initial : goal.returns-in-Initial
returns-in-Initial c =
    rw c.in-Initial.is (initial_searched _ _ _ c.initial.result c.initial.ensures c.from_words-weights.ensures c.at-sum.ensures)
