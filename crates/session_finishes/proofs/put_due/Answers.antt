-- `put_due` meets its contract: the tag buffer has the size of the session's tag, which is 16 or 32.
use Rattle.std.proofs.Common.{ap, ◌∙◌}
use Rattle.answers.specs.Answers.{tag_size}
use Rattle.aegis128l.specs.Cipher.{aegis128l}
use Rattle.session.specs.View.{session_of}
use Rattle.session.proofs.LiveFacts.{formed_tag}
use Rattle.session_finishes.proofs.put_due.Goals as goal

pub tag-requires : goal.tag-requires
tag-requires c = ap tag_size c.requires.1 ∙ formed_tag aegis128l (session_of c.args.s) c.requires.0
