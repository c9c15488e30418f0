-- What the record of a session holds while it goes on, as document 01's section "Sessions" has it: its counts, and in its buffer below the fill the
-- message, above it the keystream that is not used yet (of a MAC: zeros), at fill 0 zeros. One statement, for any bytes taken in any pieces.
-- Assumes nothing.
use Prim.Native.Nat.{ℕ, ◌+◌, ◌%◌}
use mathlib.Core.Path.{◌≡◌, refl, sym, ap, subst, ◌∙◌}
use mathlib.Core.List.{List, []}
use native.Mathlib.Omega.{arith}
use lib.ListN.{length}
use Rattle.machine.specs.Machine.{Machine, Mode, enc, dec, plain, start, after, out}
use Rattle.machine.specs.Kinds.{silent}
use Rattle.machine.proofs.Cutting.{out-length}
use Rattle.machine.proofs.Kept.{start_kept, after_fill}
use Rattle.machine.proofs.Draft.{decrypts}
use Rattle.machine.proofs.Held.{held_at_start, held_after}
use Rattle.promises.specs.Cipher.{Cipher, Mac}
use Rattle.promises.specs.Texts.{keyed, plaintext}
use Rattle.promises.specs.Session.{sealing, opening, macing}
use Rattle.promises.specs.Record.{RecordHolds}
use Rattle.promises.specs.Trace.{Calls, taken, Going, SealSession, OpenSession, MacSession}
use Rattle.promises.proofs.SessionAt.{session_at}
use Rattle.promises.proofs.TracesSealing as sealings
use Rattle.promises.proofs.TracesOpening as openings
use Rattle.promises.proofs.TracesMac as macs

module _ {S : Type 0} (K : Machine S) (m : Mode) (s₀ : S) (kind ad n held written : ℕ) where
  plain_long : (m : Mode) (xs ys : List ℕ) → length ys ≡ length xs → length (plain m xs ys) ≡ length xs
  plain_long enc xs ys e = refl
  plain_long dec xs ys e = e

  fills : (xs : List ℕ) → (after K m (start K s₀) xs).fill ≡ length xs % K.rate
  unfolding start
  fills xs = let z : 0 + length xs ≡ length xs = omega arith in after_fill K m (start K s₀) xs (start_kept K s₀) ∙ ap (λ (k : ℕ). k % K.rate) z

  at_holds : (xs : List ℕ) → RecordHolds K kind ad n held written (plain m xs (out K m (start K s₀) xs)) (session_at K m s₀ ad n kind held written xs)
  unfolding session_at
  at_holds xs =
      let long = plain_long m xs (out K m (start K s₀) xs) (out-length K m (start K s₀) xs) in
      record {
        mark_is = refl;
        ad_length_is = refl;
        msg_length_is = sym long;
        tag_size_is = refl;
        room_is = refl;
        written_is = refl;
        fill_is = fills xs ∙ ap (λ (k : ℕ). k % K.rate) (sym long);
        buffer = held_after K m [] (start K s₀) xs (start_kept K s₀) (held_at_start K s₀);
      }

module _ {S : Type 0} (C : Cipher S) (M : Mac S) {cs : Calls} where
  open C use {machine}

  pub seal_session_record : {key nonce ad : List ℕ} {n : ℕ} (t : SealSession C M key nonce ad n cs) → t.started ≡ 0 → Going cs
      → RecordHolds machine sealing (length ad) n 0 0 (taken cs) t.last
  seal_session_record {key} {nonce} {ad} {n} t done g =
      let l = sealings.still_live C M key nonce ad n t done g in
      subst (RecordHolds machine sealing (length ad) n 0 0 (taken cs)) (sym l.session_is)
      (at_holds machine enc (keyed C key nonce ad) sealing (length ad) n 0 0 (taken cs))

  pub open_session_record : {key nonce ad p₀ p : List ℕ} {n : ℕ} (t : OpenSession C M key nonce ad n p₀ cs p) → t.started ≡ 0 → Going cs
      → RecordHolds machine opening (length ad) n (length p₀) (length (taken cs)) (plaintext C key nonce ad (taken cs)) t.last
  unfolding plaintext
  open_session_record {key} {nonce} {ad} {p₀} {p} {n} t done g =
      let l = openings.still_live C M key nonce ad n p₀ t done g in
      subst (λ (msg : List ℕ). RecordHolds machine opening (length ad) n (length p₀) (length (taken cs)) msg t.last)
      (decrypts machine (keyed C key nonce ad) (taken cs))
      (subst (RecordHolds machine opening (length ad) n (length p₀) (length (taken cs)) (out machine dec (start machine (keyed C key nonce ad)) (taken cs)))
      (sym l.session_is) (at_holds machine dec (keyed C key nonce ad) opening (length ad) n (length p₀) (length (taken cs)) (taken cs)))

  pub mac_session_record : {key nonce : List ℕ} {n : ℕ} (t : MacSession C M key nonce n cs) → t.started ≡ 0 → Going cs
      → RecordHolds (silent machine) macing 0 n 0 0 (taken cs) t.last
  mac_session_record {key} {nonce} {n} t done g =
      let l = macs.still_live C M key nonce n t done g in
      subst (RecordHolds (silent machine) macing 0 n 0 0 (taken cs)) (sym l.session_is)
      (at_holds (silent machine) enc (C.init key nonce) macing 0 n 0 0 (taken cs))
