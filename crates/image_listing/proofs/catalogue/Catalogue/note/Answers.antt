use Rattle.std.proofs.Common.{◌≡◌, ℕ, Some, sym, subst}
use Rattle.std.specs.BTreeMap.{get, Updates}
use Rattle.image_listing.specs.declared.catalogue.Catalogue.{Catalogue}
use Rattle.image_listing.specs.declared.catalogue.Version.{Version}
use Rattle.image_listing.specs.Versions.{Puts, newer, page_cmp}
use Rattle.image_listing.proofs.Orders.{page_exact, puts_from_updates, counts_first, counts_newer}
use Rattle.image_listing.proofs.catalogue.Catalogue.note.Goals as goal
use Rattle.image_listing.proofs.catalogue.Catalogue.note.Goals.{in-Some+else-kept-version, in_default}

pub returns : goal.returns
returns c =
    let old = c.args.self.now.pages in
    let now = c.insert.new.self in
    let key : ℕ × ℕ = (c.args.found.space, c.args.found.number) in
    let version = c.read_version-version.result in
    let puts = λ (self : c.match-get.self ≡ c.args.self.now).
    puts_from_updates page_exact old now key version
    (subst (λ (before : Catalogue). Updates page_cmp before.pages now key (Some version)) self
    c.in_ok-insert.ensures.updates) in
    let counts = λ (self : c.match-get.self ≡ c.args.self.now)
    (same : newer (get page_cmp old key) version ≡ version).
    subst (λ (v : Version). Puts page_cmp old now key (newer (get page_cmp old key) v)) c.read_version-version.ensures
    (subst (λ (v : Version). Puts page_cmp old now key v) (sym same) (puts self)) in
    elim c.match-get.branch [
      | in-Some+else-kept-version w ↦
          counts w.self-is (counts_newer c.get.result (get page_cmp old key) version w.in-Some.kept c.get.ensures.value
          w.in-Some.is w.if-kept-version.false)
      | in_default w ↦
          counts w.self-is (counts_first c.get.result (get page_cmp old key) version c.get.ensures.value
          w.in_default.is)
    ]
