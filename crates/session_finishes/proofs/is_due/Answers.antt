-- `is_due` meets its contract: the tag has the size of the session's, which is 16 or 32.
use Rattle.std.proofs.Common.{ap, ◌∙◌}
use Rattle.answers.specs.Answers.{tag_size}
use Rattle.aegis128l.specs.Cipher.{aegis128l}
use Rattle.session.specs.View.{session_of}
use Rattle.session.proofs.LiveFacts.{formed_tag}
use Rattle.session_finishes.proofs.is_due.Goals as goal

pub verify-requires : goal.verify-requires
verify-requires c = ap tag_size c.requires.1 ∙ formed_tag aegis128l (session_of c.args.s) c.requires.0
