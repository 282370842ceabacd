use Rattle.history.proofs.Words.{◌≡◌, ℕ, ◌+◌, ◌<◌, length, get_or, largest_code}
use Rattle.ranking.specs.declared.participant.Participant.{Participant}
use Rattle.ranking.specs.Runs.{participant_of}
use Rattle.ranking.proofs.runs.participants.Given as goal

abbrev pub invariant-loop-place : goal.invariant-loop-place
invariant-loop-place l =
    (length l.all ≡ largest_code) ×
    ((k : ℕ) (d : Participant) → k < l.place → get_or l.all k d ≡ participant_of l.fn.run.first l.fn.run.last l.measure l.book (k + 1))
