-- What `==` tells of the code's values: whether they are the same plain data.
use Rattle.std.proofs.Common.{◌≡◌, Bool, ◌&&◌, IsTrue, ◌↔◌, List, ap}
use Rattle.std.proofs.lemmas.Bool.Decides.{Decides-and, Decides-eqb, Decides-like}
use Rattle.std.proofs.lemmas.Slice.Eq.{bytes_eq-Decides}
use Rattle.std.specs.Bool.{Decides}
use Rattle.std.specs.Cmp.{booleans_Decides}
use Rattle.std.specs.Cmp.Lexicographic.{pointwise}
use Rattle.mcs_base.proofs.Ranges.{pointwise_images}
use Rattle.mcs_system.specs.declared.knowledge.Context as code_context
use Rattle.mcs_system.specs.declared.bridge.Read as code_read
use Rattle.mcs_system.specs.declared.bridge.Bridge as code_bridge
use Rattle.mcs_system.specs.contracts.knowledge.ContextPartialEq.TheImpl as context_eq
use Rattle.mcs_system.specs.contracts.bridge.ReadPartialEq.TheImpl as read_eq
use Rattle.mcs_system.specs.contracts.bridge.BridgePartialEq.TheImpl as bridge_eq
use Rattle.mcs_system.specs.Plain.{Context, Read, Bridge, System}
use Rattle.mcs_system.specs.Seen.{context_of, read_of, bridge_of, system_of}
use Rattle.mcs_system.proofs.KindItems.{formulas_tell, kbs_tell}

contexts_tell : (c d : code_context.Context) → Decides (context_eq.eq-value.it c d) (context_of c ≡ context_of d)
contexts_tell c d = Decides-like _ (λ p. cc) (λ e. (ap (λ (x : Context). x.name) e, ap (λ (x : Context). x.kb) e)) (Decides-and _ _ (bytes_eq-Decides c.name d.name) (kbs_tell c.kb d.kb))

reads_tell : (q r : code_read.Read) → Decides (read_eq.eq-value.it q r) (read_of q ≡ read_of r)
reads_tell q r = Decides-like _ (λ p. cc) (λ e. (ap (λ (x : Read). x.context) e, ap (λ (x : Read). x.belief) e)) (Decides-and _ _ (Decides-eqb q.context r.context) (formulas_tell q.belief r.belief))

bridges_tell : (b d : code_bridge.Bridge) → Decides (bridge_eq.eq-value.it b d) (bridge_of b ≡ bridge_of d)
bridges_tell b d = Decides-like _ (λ p. cc)
    (λ e. (
      ap (λ (x : Bridge). x.name) e,
      (
        ap (λ (x : Bridge). x.target) e,
        (
          ap (λ (x : Bridge). x.head) e,
          (
            ap (λ (x : Bridge). x.pos) e,
            (
              ap (λ (x : Bridge). x.neg) e,
              (ap (λ (x : Bridge). x.keep) e, (ap (λ (x : Bridge). x.closed) e, ap (λ (x : Bridge). x.weight) e)),
            ),
          ),
        ),
      ),
    ))
    (Decides-and _ _ (bytes_eq-Decides b.name d.name) (Decides-and _ _ (Decides-eqb b.target d.target) (Decides-and _ _ (formulas_tell b.head d.head)
    (Decides-and _ _ (pointwise_images _ read_of reads_tell b.pos.items d.pos.items) (Decides-and _ _ (pointwise_images _ read_of reads_tell b.neg.items d.neg.items)
    (Decides-and _ _ (booleans_Decides b.keep d.keep) (Decides-and _ _ (booleans_Decides b.closed d.closed) (Decides-eqb b.weight d.weight))))))))

-- two systems are the same where the tests of their contexts and of their bridge rules say so
pub systems_tell : (m n : System) (cs ds : List code_context.Context) (bs es : List code_bridge.Bridge) (contexts bridges answer : Bool) → system_of cs bs ≡ m → system_of ds es ≡ n
    → contexts ≡ pointwise context_eq.eq-value.it cs ds → bridges ≡ pointwise bridge_eq.eq-value.it bs es → answer ≡ (contexts && bridges) → IsTrue answer ↔ (m ≡ n)
systems_tell m n cs ds bs es contexts bridges answer is_m is_n is_contexts is_bridges is =
    rw (← is_m, ← is_n, is, is_contexts, is_bridges)
    (Decides-like _ (λ p. cc) (λ e. (ap (λ (x : System). x.contexts) e, ap (λ (x : System). x.bridges) e)) (Decides-and _ _ (pointwise_images _ context_of contexts_tell cs ds) (pointwise_images _ bridge_of bridges_tell bs es)))
