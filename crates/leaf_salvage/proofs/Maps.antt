-- What a descriptor page leaves known.
use Rattle.std.proofs.Common.{◌≡◌, ◌≢◌, ◌↔◌, ℕ, ◌+◌, ◌%◌, Bool, true, false, List, [], ◌++◌, length}
use Rattle.std.proofs.Common.{drop, Some, None, IsTrue, if◌then◌else◌, refl, sym, ap, ◌∙◌, subst, arith}
use Rattle.std.proofs.lemmas.List.{drop_all, append-nil}
use Rattle.std.proofs.lemmas.Bool.{false≢true}
use Rattle.page_source.specs.Pages.{page_of, with_bytes}
use Rattle.fil_frame.specs.Frame.{kind_of}
use Rattle.space_header.specs.Header.{free_limit}
use Rattle.leaf_salvage.specs.Standing.{Stands}
use Rattle.leaf_salvage.specs.Unused.{map_page, map_kind}
use Rattle.leaf_salvage.specs.Known.{Known, TellsLimit, TellsMap, Knows}

-- a page all of whose bytes were written
pub with_all_bytes : (old new : List ℕ) → length old ≡ length new → with_bytes old 0 new ≡ new
unfolding with_bytes
with_all_bytes old new size =
    let rest : drop (0 + length new) old ≡ [] = drop_all (0 + length new) old (grind arith) in
    ap (λ (bytes : List ℕ). new ++ bytes) rest ∙ append-nil new

map_next : (n : ℕ) → n % 16384 ≡ 0 → map_page (n + 1) ≡ n
map_next n whole = grind arith

-- this page is a map exactly where it was fetched and is one
tells : (file : List ℕ) (missed : ℕ → Bool) (n : ℕ) (page : List ℕ) (told : Bool) → missed n ≡ false
    → page ≡ page_of file n → IsTrue told ↔ (Stands page n × (kind_of page ≡ map_kind n))
    → TellsMap file missed n (if told then Some page else None)
tells file missed n page true read same is =
    let P : List ℕ → Type 0 = λ bytes. Stands bytes n × (kind_of bytes ≡ map_kind n) in
    let found = subst P same (is.0 refl) in
    (record { read = read; stands = found.0; kind = found.1 }, same)
tells file missed n page false read same is =
    let P : List ℕ → Type 0 = λ bytes. Stands bytes n × (kind_of bytes ≡ map_kind n) in
    λ map. false≢true (is.1 (subst P (sym same) (map.stands, map.kind)))

-- a descriptor page after page 0
pub learned_later : (file : List ℕ) (missed : ℕ → Bool) (n : ℕ) (page : List ℕ) (told : Bool) (known : Known)
    → n % 16384 ≡ 0 → n ≢ 0 → missed n ≡ false → page ≡ page_of file n
    → IsTrue told ↔ (Stands page n × (kind_of page ≡ map_kind n)) → Knows file missed n known
    → Knows file missed (n + 1) (record { limit = known.limit; map = if told then Some page else None })
learned_later file missed n page told known whole later read same is knows = record {
  limit = λ _. knows.limit later;
  map = λ _ _. subst (λ (d : ℕ). TellsMap file missed d (if told then Some page else None)) (sym (map_next n whole))
      (tells file missed n page told read same is);
}

limit_of_map : (file : List ℕ) (missed : ℕ → Bool) (page : List ℕ) (told : Bool)
    → TellsMap file missed 0 (if told then Some page else None)
    → TellsLimit file missed (if told then Some (free_limit page) else None)
limit_of_map file missed page true map = (map.0, ap (λ (bytes : List ℕ). free_limit bytes) map.1)
limit_of_map file missed page false map = map

-- page 0
pub learned_first : (file : List ℕ) (missed : ℕ → Bool) (page : List ℕ) (told : Bool)
    → missed 0 ≡ false → page ≡ page_of file 0
    → IsTrue told ↔ (Stands page 0 × (kind_of page ≡ map_kind 0))
    → Knows file missed 1
    (record { limit = if told then Some (free_limit page) else None; map = if told then Some page else None })
learned_first file missed page told read same is =
    let map = tells file missed 0 page told read same is in
    record {
      limit = λ _. limit_of_map file missed page told map;
      map = λ _ _.
          subst (λ (d : ℕ). TellsMap file missed d (if told then Some page else None)) (sym (map_next 0 refl)) map;
    }
