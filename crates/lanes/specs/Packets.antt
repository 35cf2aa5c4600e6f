-- Lists in which each is a packet.
use Rattle.std.specs.Prelude.{◌≡◌, ℕ, ◌<◌, true, List, [], ◌∷◌, ◌++◌, length, slice_index_or, slice_set, refl}
use Rattle.std.proofs.Common.{arith}
use Rattle.std.specs.List.{AllByRecursion}
use Rattle.std.proofs.ByRecursion.{All-get_or, All-from_get_or, All-set}
use Rattle.std.proofs.lemmas.List.{length-set}
use Rattle.std.proofs.lemmas.Bool.{and_parts, and_from, leb-true}
use Rattle.lanes.specs.Queues.{most_bytes, Packet, is_packet, all_packets, rest}

-- what holds of each of n elements does so after one is written
pub each_set : {A : Type 0} (P : A → Type 0) (d : A) (xs : List A) (i : ℕ) (v : A) (n : ℕ) → length xs ≡ n
    → ((k : ℕ) → k < n → P (slice_index_or xs k d)) → P v → (k : ℕ) → k < n → P (slice_index_or (slice_set xs i v) k d)
each_set P d xs i v n long each new k h =
    All-get_or P (slice_set xs i v) k d (omega (arith, length-set xs i v)) (All-set P xs i v new (All-from_get_or P xs d (λ k h. each k (omega arith))))

pub packet : (x : ℕ) → is_packet x ≡ true → Packet x
packet x e = let p = and_parts _ _ e in (leb-true 1 x p.0, leb-true x most_bytes p.1)

pub all_packets_lem : (xs : List ℕ) → all_packets xs ≡ true → AllByRecursion Packet xs
all_packets_lem [] e = tt
all_packets_lem (x ∷ xs) e = let p = and_parts _ _ e in (packet x p.0, all_packets_lem xs p.1)

pub packets_push : (xs : List ℕ) (x : ℕ) → all_packets xs ≡ true → is_packet x ≡ true → all_packets (xs ++ (x ∷ [])) ≡ true
packets_push [] x e is = and_from _ _ is refl
packets_push (y ∷ xs) x e is = let p = and_parts _ _ e in and_from _ _ p.0 (packets_push xs x p.1 is)

pub packets_rest : (xs : List ℕ) → all_packets xs ≡ true → all_packets (rest xs) ≡ true
packets_rest [] e = refl
packets_rest (x ∷ xs) e = (and_parts _ _ e).1
