-- `opened` meets its contract: the machine over the ciphertext in place, and the verdict on its tag.
use Rattle.std.proofs.Common.{List, ℕ, ap, length, ◌∙◌}
use Rattle.lent.specs.Lent.{same}
use Rattle.answers.specs.Answers.{unless}
use Rattle.aegis128l.specs.Cipher.{aegis128l}
use Rattle.oneshot.proofs.Texts.{opens, opens-tag}
use Rattle.oneshot.proofs.opened.Goals as goal

pub returns : goal.returns
returns c =
    let verdict = λ (t : List ℕ). unless 7 (same c.args.tag.now t) 0 in (
      opens aegis128l _ _ _ _ c.transformed-end.ensures.1,
      c.verified.ensures ∙ ap verdict (opens-tag aegis128l _ _ _ _ (length c.args.tag.now) c.transformed-end.ensures.0),
    )
