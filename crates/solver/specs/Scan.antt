-- The problem of a scan.
use Rattle.model.specs.Problem.{Problem}
use Rattle.model.specs.Grid.{grid}
use Rattle.solver.specs.declared.scan.Scan.{Scan}

-- that of its terms, its samples and its pairs' own weights
abbrev pub problem_of : Scan → Problem
problem_of s = grid s.terms s.samples.now s.weights.own.now
