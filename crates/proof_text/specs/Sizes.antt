-- How many rule applications a body has, and how deep its splits are nested.
use Rattle.std.specs.Prelude.{ℕ, ◌+◌, max, length}
use Rattle.proof_text.specs.declared.body.BodyText.{BodyText}
use Rattle.proof_text.specs.declared.body.EndText.{EndText, As, Efq, Gap, Cs', Row_of-CaseText, end_of-CaseText, more_of-CaseText}

abbrev mutual
  -- an end counts 1, and a split besides it each application of its cases
  pub end_size : EndText → ℕ
  end_size (As disjunct args) = 1
  end_size Efq = 1
  end_size (Gap within) = 1
  end_size (Cs' line _ cases) = 1 + case_sizes cases

  pub case_sizes : {n : _} → Row_of-CaseText n → ℕ
  case_sizes end_of-CaseText = 0
  case_sizes (more_of-CaseText facts steps end rest) = length steps + end_size end + case_sizes rest

-- the number of rule applications, summed over the cases; a gap counts 1
abbrev pub size : BodyText → ℕ
size body = length body.steps + end_size body.end

abbrev mutual
  -- how many splits are around the deepest application
  pub end_nesting : EndText → ℕ
  end_nesting (As disjunct args) = 0
  end_nesting Efq = 0
  end_nesting (Gap within) = 0
  end_nesting (Cs' line _ cases) = 1 + greatest_nesting cases

  pub greatest_nesting : {n : _} → Row_of-CaseText n → ℕ
  greatest_nesting end_of-CaseText = 0
  greatest_nesting (more_of-CaseText facts steps end rest) =
      max (end_nesting end) (greatest_nesting rest)

abbrev pub nesting : BodyText → ℕ
nesting body = end_nesting body.end
