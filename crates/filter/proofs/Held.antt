-- The memory after a history holds what the row of like units before tells.
use Prim.Native.Nat.{ℕ, zero, suc}
use mathlib.Core.Path.{◌≡◌, refl, sym, ap, ap₂, subst, ◌∙◌}
use mathlib.Core.Bool.{Bool, true, false, ◌&&◌, ◌||◌, and-true, and-false, and_self}
use mathlib.Core.List.{List, [], ◌∷◌, reverse}
use lib.Dec.{eqb}
use lib.ListN.{length}
use Rattle.bits.specs.Format.{Format}
use Rattle.filter.specs.declared.Kind.{Kind}
use Rattle.filter.specs.declared.Kind.TheVariants.{FillIn, LinkStatus, Message}
use Rattle.filter.specs.declared.Memory.{Memory}
use Rattle.filter.specs.declared.Settled.{Settled}
use Rattle.filter.specs.Unit.{kind_of, masked, same, alike}
use Rattle.filter.specs.Memory.{empty_memory, holds_like, repeats, drops, forgets, remembers, settled}
use Rattle.filter.specs.History.{FilterInput, good, command-4, memory_after}
use Rattle.filter.specs.Predecessors.{is_message, needs, row, dropped_after}
use Rattle.filter.proofs.UnitKinds.{not_none, lengths_differ}
use Rattle.filter.proofs.Likeness.{equal-parts, alike-parts}
use Rattle.std.proofs.lemmas.Bool.{and_parts}
use Rattle.filter.proofs.Settling.{when-dropped, when-over, when-lost}
use Rattle.filter.proofs.Histories.{memory-next}

module _ (F : Format) where
  message-is : (k : Kind) → is_message k ≡ true → k ≡ Message
  message-is FillIn h = cc
  message-is LinkStatus h = cc
  message-is Message h = refl

  module _ (mask : List ℕ) where
    -- ---- the row of like units before
    row-none : (hs : List FilterInput) (u : List ℕ) → row F mask hs zero u ≡ true
    unfolding row
    row-none [] u = refl
    row-none (good v free ∷ hs) u = refl
    row-none (command-4 ∷ hs) u = refl

    module _ (hs : List FilterInput) (v : List ℕ) where
      row-message : (free : Bool) → is_message (kind_of F v) ≡ true → (k : ℕ) (u : List ℕ) → row F mask (good v free ∷ hs) (suc k) u ≡ false
      unfolding row
      row-message free e k u = rw e

      row-lost : dropped_after F mask hs v ≡ false → (k : ℕ) (u : List ℕ) → row F mask (good v false ∷ hs) (suc k) u ≡ false
      unfolding row
      row-lost q k u = rw q (simp and-false)

      row_kept : (free : Bool) → is_message (kind_of F v) ≡ false → dropped_after F mask hs v || free ≡ true
          → (k : ℕ) (u : List ℕ) → row F mask (good v free ∷ hs) (suc k) u ≡ alike mask v u && row F mask hs k u
      unfolding row
      row_kept free e q k u = rw (e, q)

      row_first : (free : Bool) → is_message (kind_of F v) ≡ false → dropped_after F mask hs v || free ≡ true
          → (u : List ℕ) → row F mask (good v free ∷ hs) 1 u ≡ alike mask v u
      row_first free e q u =
          row_kept free e q 0 u ∙ ap (λ (b : Bool). alike mask v u && b) (row-none hs u) ∙ and-true (alike mask v u)

    -- ---- what a memory holds after a history
    pub record Tells (hs : List FilterInput) (m : Memory) : Type 0 where
      pub one : (u : List ℕ) → is_message (kind_of F u) ≡ false → holds_like mask m u ≡ row F mask hs 1 u
      pub two : (u : List ℕ) → kind_of F u ≡ LinkStatus → holds_like mask m u && m.alike ≡ row F mask hs 2 u

    -- with such a memory the two filters drop the same
    pub drops-as : (hs : List FilterInput) (m : Memory) → Tells hs m → (u : List ℕ) → drops F true mask m u ≡ dropped_after F mask hs u
    drops-as hs m t u = go (kind_of F u) refl
      where
        go : (k : Kind) → kind_of F u ≡ k → repeats k (holds_like mask m u) m.alike ≡ needs k (λ j. row F mask hs j u)
        go FillIn e = t.one u (ap is_message e)
        go LinkStatus e = t.two u e
        go Message e = refl

    -- ---- the empty memory
    empty-tells : (hs : List FilterInput) → ((k : ℕ) (u : List ℕ) → row F mask hs (suc k) u ≡ false) → Tells hs (empty_memory F)
    empty-tells hs r = record {
      one = λ u h. nothing u h ∙ sym (r 0 u);
      two = λ u e. ap (λ (b : Bool). b && false) (nothing u (ap is_message e)) ∙ sym (r 1 u);
    }
      where
        nothing : (u : List ℕ) → is_message (kind_of F u) ≡ false → holds_like mask (empty_memory F) u ≡ false
        nothing u h = rw (not_none F u h)

    -- ---- a unit that is no message goes by
    -- what is remembered of v
    abbrev unit : Memory → List ℕ → Memory
    unit m v = record { length = length v; octets = masked mask v; alike = holds_like mask m v }

    module _ (hs : List FilterInput) (m : Memory) (v : List ℕ) (t : Tells hs m) (n : is_message (kind_of F v) ≡ false) where
      -- a dropped unit leaves the memory, which holds its like
      module _ (q : dropped_after F mask hs v ≡ true) where
        repeated : repeats (kind_of F v) (holds_like mask m v) m.alike ≡ true
        repeated = drops-as hs m t v ∙ q

        held : (k : Kind) → repeats k (holds_like mask m v) m.alike ≡ true → holds_like mask m v ≡ true
        held FillIn r = r
        held LinkStatus r = (and_parts (holds_like mask m v) m.alike r).0
        held Message r = cc

        as-held : (u : List ℕ) → holds_like mask m u ≡ alike mask v u
        as-held u =
            let p = equal-parts m.length (length v) m.octets (masked mask v) (held (kind_of F v) repeated) in
            ap₂ (λ (l : ℕ) (os : List ℕ). eqb l (length u) && same os (masked mask u)) p.0 p.1

        second : (u : List ℕ) → kind_of F u ≡ LinkStatus → (k : Kind) → kind_of F v ≡ k → repeats k (holds_like mask m v) m.alike ≡ true
            → alike mask v u && m.alike ≡ alike mask v u && holds_like mask m u
        second u s FillIn e r = rw (lengths_differ F v u e s)
        second u s LinkStatus e r =
            ap (λ (b : Bool). alike mask v u && b) (and_parts (holds_like mask m v) m.alike r).1 ∙ and-true (alike mask v u)
            ∙ sym (and_self (alike mask v u)) ∙ ap (λ (b : Bool). alike mask v u && b) (sym (as-held u))
        second u s Message e r = cc

        dropped-tells : (free : Bool) → Tells (good v free ∷ hs) m
        dropped-tells free =
            let d : dropped_after F mask hs v || free ≡ true = ap (λ (b : Bool). b || free) q in
            record {
              one = λ u h. as-held u ∙ sym (row_first hs v free n d u);
              two = λ u s. ap (λ (b : Bool). b && m.alike) (as-held u) ∙ second u s (kind_of F v) refl repeated
                  ∙ ap (λ (b : Bool). alike mask v u && b) (t.one u (ap is_message s)) ∙ sym (row_kept hs v free n d 1 u);
            }

      -- a unit that is handed over is held, with whether its like was held before
      when-alike : (u : List ℕ) (b : Bool) → alike mask v u ≡ b → b && holds_like mask m v ≡ b && holds_like mask m u
      when-alike u true e =
          let p = alike-parts mask v u e in
          ap₂ (λ (l : ℕ) (os : List ℕ). eqb m.length l && same m.octets os) p.0 p.1
      when-alike u false e = refl

      over-tells : dropped_after F mask hs v ≡ false → Tells (good v true ∷ hs) (unit m v)
      over-tells q =
          let d : dropped_after F mask hs v || true ≡ true = ap (λ (b : Bool). b || true) q in
          record {
            one = λ u h. sym (row_first hs v true n d u);
            two = λ u s. when-alike u (alike mask v u) refl ∙ ap (λ (b : Bool). alike mask v u && b) (t.one u (ap is_message s))
                ∙ sym (row_kept hs v true n d 1 u);
          }

    -- ---- each input
    module _ (m : Memory) (v : List ℕ) where
      message-empties : is_message (kind_of F v) ≡ true → (free : Bool) → (settled F true mask m v free).memory ≡ empty_memory F
      message-empties n free = go free
        where
          k : kind_of F v ≡ Message
          k = message-is (kind_of F v) n

          d : drops F true mask m v ≡ false
          d = ap (λ (x : Kind). repeats x (holds_like mask m v) m.alike) k

          go : (free : Bool) → (settled F true mask m v free).memory ≡ empty_memory F
          go true = (λ i. (when-over F true mask m v d i).memory) ∙ ap (λ (x : Kind). forgets F x (unit m v)) k
          go false = λ i. (when-lost F true mask m v d i).memory

      over-remembers : is_message (kind_of F v) ≡ false → remembers F true mask m v ≡ unit m v
      over-remembers n = go (kind_of F v) n
        where
          go : (k : Kind) → is_message k ≡ false → forgets F k (unit m v) ≡ unit m v
          go FillIn e = refl
          go LinkStatus e = refl
          go Message e = cc

    good-tells : (hs : List FilterInput) (m : Memory) (v : List ℕ) (free : Bool) → Tells hs m → Tells (good v free ∷ hs) (settled F true mask m v free).memory
    good-tells hs m v free t = go (is_message (kind_of F v)) refl (dropped_after F mask hs v) refl free
      where
        to : (free : Bool) {r : Settled} → settled F true mask m v free ≡ r → Tells (good v free ∷ hs) r.memory
            → Tells (good v free ∷ hs) (settled F true mask m v free).memory
        to free e = subst (λ (r : Settled). Tells (good v free ∷ hs) r.memory) (sym e)

        go : (a : Bool) → is_message (kind_of F v) ≡ a → (b : Bool) → dropped_after F mask hs v ≡ b → (free : Bool)
            → Tells (good v free ∷ hs) (settled F true mask m v free).memory
        go true n b q free =
            subst (Tells (good v free ∷ hs)) (sym (message-empties m v n free)) (empty-tells (good v free ∷ hs) (row-message hs v free n))
        go false n true q free = to free (when-dropped F true mask m v free (drops-as hs m t v ∙ q)) (dropped-tells hs m v t n q free)
        go false n false q true =
            to true (when-over F true mask m v (drops-as hs m t v ∙ q)) (subst (Tells (good v true ∷ hs)) (sym (over-remembers m v n)) (over-tells hs m v t n q))
        go false n false q false = to false (when-lost F true mask m v (drops-as hs m t v ∙ q)) (empty-tells (good v false ∷ hs) (row-lost hs v q))

    pub tells : (hs : List FilterInput) → Tells hs (memory_after F true mask (reverse hs))
    unfolding row memory_after
    tells [] = empty-tells [] (λ k u. refl)
    tells (good v free ∷ hs) =
        subst (Tells (good v free ∷ hs)) (sym (memory-next F true mask (good v free) hs)) (good-tells hs (memory_after F true mask (reverse hs)) v free (tells hs))
    tells (command-4 ∷ hs) =
        subst (Tells (command-4 ∷ hs)) (sym (memory-next F true mask command-4 hs)) (empty-tells (command-4 ∷ hs) (λ k u. refl))
