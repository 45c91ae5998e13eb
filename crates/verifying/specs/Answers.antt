-- The line and the status of an answer to a certificate.
use Rattle.std.specs.Prelude.{ℕ, List, ◌++◌, codes}
use Rattle.std.specs.Fmt.{decimal}
use Rattle.certificate.specs.declared.errors.CertFault.TheVariants.{Format, Count, TooDeep, Pair}
use Rattle.cert_check.specs.declared.answers.Answer.{Answer}
use Rattle.cert_check.specs.declared.answers.Answer.TheVariants.{Safe, Unsafe, Wrong}
use Rattle.run_parts.specs.declared.runs.Status.{Status}
use Rattle.run_parts.specs.declared.runs.Status.TheVariants.{Good, Bad, Refused}

abbrev pub answer_status : Answer → Status
answer_status Safe = Good
answer_status Unsafe = Bad
answer_status (Wrong fault) = Refused

abbrev pub verify_line : Answer → List ℕ
verify_line Safe = codes "accepted safe\n"
verify_line Unsafe = codes "accepted unsafe\n"
verify_line (Wrong (Format line)) = codes "wrong C1 line " ++ (decimal line ++ codes "\n")
verify_line (Wrong Count) = codes "wrong C2\n"
verify_line (Wrong (TooDeep line)) = codes "wrong C3 line " ++ (decimal line ++ codes "\n")
verify_line (Wrong (Pair pair)) = codes "wrong C5 pair " ++ (decimal pair ++ codes "\n")
