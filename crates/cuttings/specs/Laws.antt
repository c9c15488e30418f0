-- The laws of pieces, for each kind of session.
-- Assumes nothing.
use mathlib.Core.Path.{◌≡◌, sym, ap, ap₂, ◌∙◌}
use mathlib.Core.List.{List, ◌++◌}
use Rattle.std.specs.Prelude.{ℕ}
use Rattle.std.specs.List.{between}
use Rattle.std.proofs.lemmas.List.Edits.{between_none}
use Rattle.machine.specs.Machine.{Core, enc, dec, out, after}
use Rattle.machine.specs.Kinds.{silent}
use Rattle.machine.proofs.Cutting.{out-append}
use Rattle.promises.specs.Session.{Session, core}
use Rattle.aegis128l.specs.Aegis128L.{Blocks, machine}
use Rattle.cuttings.specs.Pieces.{SealingPart, OpeningPart, MacingPart, PieceLaws}
use Rattle.cuttings.specs.Fed.{fed, fed_nil, fed-core, fed-append, opened, opened_nil, opened-append, between_join}

pub sealing_laws : (msg ct : List ℕ) → PieceLaws (SealingPart msg ct)
unfolding out
sealing_laws msg ct = record {
  none = λ i s.
      let m = between_none msg i in
      record {
        session = sym (ap (fed machine enc s) m ∙ fed_nil machine enc s);
        text = between_none ct i ∙ sym (ap (out machine enc (core s)) m);
      };
  joined = λ {i} {j} {k} {s} {t} {u} h g p q.
      let a = between i j msg in
      let b = between j k msg in
      let at : core t ≡ after machine enc (core s) a = ap core p.session ∙ fed-core machine enc s a in
      let whole = sym (between_join i j k msg h g) in
      record {
        session =
            q.session
            ∙ ap (λ (v : Session Blocks). fed machine enc v b) p.session
            ∙ fed-append machine enc s a b
            ∙ ap (fed machine enc s) whole;
        text =
            between_join i j k ct h g
            ∙ ap₂ (λ (x y : List ℕ). x ++ y) p.text (q.text ∙ ap (λ (c : Core Blocks). out machine enc c b) at)
            ∙ sym (out-append machine enc (core s) a b)
            ∙ ap (out machine enc (core s)) whole;
      };
}

pub opening_laws : (ct : List ℕ) → PieceLaws (OpeningPart ct)
opening_laws ct = record {
  none = λ i s. record { session = sym (ap (opened machine dec s) (between_none ct i) ∙ opened_nil machine dec s) };
  joined = λ {i} {j} {k} {s} {t} {u} h g p q.
      let a = between i j ct in
      let b = between j k ct in
      record {
        session =
            q.session
            ∙ ap (λ (v : Session Blocks). opened machine dec v b) p.session
            ∙ opened-append machine dec s a b
            ∙ ap (opened machine dec s) (sym (between_join i j k ct h g));
      };
}

pub macing_laws : (data' : List ℕ) → PieceLaws (MacingPart data')
macing_laws data' = record {
  none = λ i s. record { session = sym (ap (fed (silent machine) enc s) (between_none data' i) ∙ fed_nil (silent machine) enc s) };
  joined = λ {i} {j} {k} {s} {t} {u} h g p q.
      let a = between i j data' in
      let b = between j k data' in
      record {
        session =
            q.session
            ∙ ap (λ (v : Session Blocks). fed (silent machine) enc v b) p.session
            ∙ fed-append (silent machine) enc s a b
            ∙ ap (fed (silent machine) enc s) (sym (between_join i j k data' h g));
      };
}
