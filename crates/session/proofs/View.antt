-- The struct of the code says no more than the promises do: what the promises see of two sessions is equal only where the structs are.
-- An array of the code has its length; the list for it is asked to.
-- Assumes nothing.
use native.Mathlib.Omega.{arith}
use mathlib.Core.Path.{◌≡◌, refl, sym, ap, ◌∙◌}
use mathlib.Core.List.{List, [], ◌∷◌}
use lib.ListN.{length}
use Rattle.promises.specs.Session as promise
use Rattle.aes.specs.declared.AesBlock.{AesBlock}
use Rattle.aegis128l.specs.Aegis128L.{Blocks}
use Rattle.aegis128l.specs.View.{blocks_of}
use Rattle.session.specs.declared.Session.{Session}
use Rattle.session.specs.View.{session_of}

-- ---- eight blocks from their bytes, and back

abbrev blocked : Blocks → List AesBlock
blocked [] = []
blocked (x ∷ xs) = record { bytes = x } ∷ blocked xs

eight : (b : List AesBlock) → length b ≡ 8 → blocked (blocks_of b) ≡ b
eight [] h = absurd (omega arith)
eight (x₀ ∷ []) h = absurd (omega arith)
eight (x₀ ∷ x₁ ∷ []) h = absurd (omega arith)
eight (x₀ ∷ x₁ ∷ x₂ ∷ []) h = absurd (omega arith)
eight (x₀ ∷ x₁ ∷ x₂ ∷ x₃ ∷ []) h = absurd (omega arith)
eight (x₀ ∷ x₁ ∷ x₂ ∷ x₃ ∷ x₄ ∷ []) h = absurd (omega arith)
eight (x₀ ∷ x₁ ∷ x₂ ∷ x₃ ∷ x₄ ∷ x₅ ∷ []) h = absurd (omega arith)
eight (x₀ ∷ x₁ ∷ x₂ ∷ x₃ ∷ x₄ ∷ x₅ ∷ x₆ ∷ []) h = absurd (omega arith)
eight (x₀ ∷ x₁ ∷ x₂ ∷ x₃ ∷ x₄ ∷ x₅ ∷ x₆ ∷ x₇ ∷ []) h = refl
eight (x₀ ∷ x₁ ∷ x₂ ∷ x₃ ∷ x₄ ∷ x₅ ∷ x₆ ∷ x₇ ∷ x₈ ∷ xs) h = absurd (omega arith)

same_blocks : (a b : List AesBlock) → length a ≡ 8 → length b ≡ 8 → blocks_of a ≡ blocks_of b → a ≡ b
same_blocks a b ha hb e = sym (eight a ha) ∙ ap blocked e ∙ eight b hb

-- ---- the structs

pub same-session : (s t : Session) → length s.blocks ≡ 8 → length t.blocks ≡ 8 → session_of s ≡ session_of t → s ≡ t
same-session s t hs ht e =
    let b : s.blocks ≡ t.blocks = same_blocks s.blocks t.blocks hs ht (ap (λ (x : promise.Session Blocks). x.state) e) in
    λ k. record {
      blocks = b k;
      buf = (e k).buf;
      fill = (e k).fill;
      ad_len = (e k).ad_length;
      msg_len = (e k).msg_length;
      tag_size = (e k).tag_size;
      mark = (e k).mark;
      room = (e k).room;
      written = (e k).written;
    }
