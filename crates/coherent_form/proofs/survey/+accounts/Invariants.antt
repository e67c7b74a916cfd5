use Rattle.std.proofs.Common.{◌≡◌, take}
use Rattle.coherent_form.specs.Surveys.{members_of}
use Rattle.coherent_form.proofs.survey.+accounts.Given as goal

-- what the first members give
abbrev pub invariant-members_of-loop-member : goal.invariant-members_of-loop-member
invariant-members_of-loop-member l = l.all ≡ members_of (take l.member-index l.members)
