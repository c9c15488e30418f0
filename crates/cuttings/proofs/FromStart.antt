-- A session that has taken a whole text since its start, and ended: what the record of the text says.
-- Assumes nothing.
use Prim.Native.Nat.{ℕ}
use mathlib.Core.Path.{◌≡◌, refl, sym, ap, ◌∙◌}
use mathlib.Core.List.{List, [], ◌++◌}
use lib.ListN.{length}
use Rattle.machine.specs.Machine.{enc, dec, out}
use Rattle.machine.specs.Kinds.{silent}
use Rattle.promises.specs.SessionCalls.{started}
use Rattle.promises.specs.Session.{Session, core, session_tag, session_mac, sealing, opening, macing}
use Rattle.promises.specs.Texts.{keyed}
use Rattle.promises.proofs.SessionAt.{sealing_at, sealing-start, sealing-more, ciphertext_nil, ciphertext-more, sealing-tag}
use Rattle.promises.proofs.SessionAt.{opening-start, opening-more, opening-tag, macing-start, macing-more, macing-tag}
use Rattle.aegis128l.specs.Aegis128L.{Blocks, machine, init}
use Rattle.aegis128l.specs.Cipher.{aegis128l, mac_of_aegis128l}
use Rattle.recorded.specs.Records.{Sealed, Accepted, Maced}
use Rattle.cuttings.specs.Pieces.{SealingPart, OpeningPart, MacingPart, Tagged, MacTagged, Shown}
use Rattle.cuttings.specs.Fed.{fed, opened, between_whole}

module _ (key nonce ad : List ℕ) where
  pub sealed_from_start : (msg ct tag : List ℕ) {s : Session Blocks}
      → s ≡ started aegis128l (keyed aegis128l key nonce ad) (length ad) (length tag) sealing 0
      → length ct ≡ length msg → Shown (SealingPart msg ct) (Tagged tag) (length msg) s → Sealed key nonce ad msg ct tag
  sealed_from_start msg ct tag {s = s} e same p =
      let n = length tag in
      let began = e ∙ sealing-start aegis128l key nonce ad n in
      let m = between_whole (length msg) msg refl in
      record {
        text =
            sym (between_whole (length msg) ct same)
            ∙ p.taken.text
            ∙ ap (out machine enc (core s)) m
            ∙ ap (λ (v : Session Blocks). out machine enc (core v) msg) began
            ∙ sym (ciphertext-more aegis128l key nonce ad n [] msg
            ∙ ap (λ (x : List ℕ). x ++ out machine enc (core (sealing_at aegis128l key nonce ad n [])) msg) (ciphertext_nil aegis128l key nonce ad n));
        tagged =
            p.ended
            ∙ ap (session_tag aegis128l)
            (p.taken.session
            ∙ ap (fed machine enc s) m
            ∙ ap (λ (v : Session Blocks). fed machine enc v msg) began
            ∙ sealing-more aegis128l key nonce ad n [] msg)
            ∙ sealing-tag aegis128l key nonce ad n msg;
      }

  pub accepted_from_start : (ct tag : List ℕ) (room : ℕ) {s : Session Blocks}
      → s ≡ started aegis128l (keyed aegis128l key nonce ad) (length ad) (length tag) opening room
      → Shown (OpeningPart ct) (Tagged tag) (length ct) s → Accepted key nonce ad ct tag
  accepted_from_start ct tag room {s = s} e p =
      let n = length tag in
      record {
        tagged =
            p.ended
            ∙ ap (session_tag aegis128l)
            (p.taken.session
            ∙ ap (opened machine dec s) (between_whole (length ct) ct refl)
            ∙ ap (λ (v : Session Blocks). opened machine dec v ct) (e ∙ opening-start aegis128l key nonce ad n room)
            ∙ opening-more aegis128l key nonce ad n room [] ct)
            ∙ opening-tag aegis128l key nonce ad n room ct;
      }

pub maced_from_start : (key nonce data' tag : List ℕ) {s : Session Blocks} → s ≡ started aegis128l (init key nonce) 0 (length tag) macing 0
    → Shown (MacingPart data') (MacTagged tag) (length data') s → Maced key nonce data' tag
maced_from_start key nonce data' tag {s = s} e p =
    let n = length tag in
    record {
      tagged =
          p.ended
          ∙ ap (session_mac aegis128l mac_of_aegis128l)
          (p.taken.session
          ∙ ap (fed (silent machine) enc s) (between_whole (length data') data' refl)
          ∙ ap (λ (v : Session Blocks). fed (silent machine) enc v data') (e ∙ macing-start aegis128l key nonce n)
          ∙ macing-more aegis128l key nonce n [] data')
          ∙ macing-tag aegis128l mac_of_aegis128l key nonce n data';
    }
