use Rattle.std.proofs.Common.{◌≡◌, ◌<◌, ◌∷◌, [], ◌++◌, Bool, true, false, List, length, length-append, length-set}
use Rattle.std.proofs.Common.{append-nil, get_or, set, map, refl, ap, sym, ◌∙◌, arith}
use Rattle.page_source.specs.Lists.{unmarked}
use Rattle.page_source.proofs.Marks.{unmarked_fewer}
use Rattle.space_header.specs.Header.{node_address}
use Rattle.inode_segments.specs.declared.inodes.Segment.{Segment}
use Rattle.inode_segments.specs.Inodes.{inode_at, inode_byte}
use Rattle.inode_segments.specs.Kept.{InodesView}
use Rattle.inode_segments.proofs.Used.{used_before, used_before-none, used_before-all, used_one, unused_one, kept_more}
use Rattle.inode_segments.proofs.inodes.Inodes.add_page.Goals as goal
use Rattle.inode_segments.proofs.inodes.Inodes.add_page.Goals.{then-is_used+in_ok-push, else-is_used}

pub loop-k-init : goal.loop-k-init
loop-k-init c =
    let n = c.args.n in
    let page = c.args.page.now in
    let pages = c.self.inside.pages.items in
    let same : pages ≡ c.args.self.now.pages = ap (λ (v : InodesView). v.pages) c.self.view_is in
    let below : n < length pages = omega (arith, c.requires.below, ap length same) in
    let unseen : get_or pages n false ≡ false = ap (λ (xs : List Bool). get_or xs n false) same ∙ c.requires.new in
    let fewer = unmarked_fewer pages n below unseen in
    record {
      pages = ap (λ (v : InodesView). set v.pages n true) c.self.view_is;
      places = ap (λ (v : InodesView). v.places) c.self.view_is
          ∙ sym (ap (λ xs. c.args.self.now.places ++ map (λ j. node_address (inode_byte j) n) xs)
          (used_before-none page)
          ∙ append-nil c.args.self.now.places);
      inodes = ap (λ (v : InodesView). v.inodes) c.self.view_is
          ∙ sym (ap (λ xs. c.args.self.now.inodes ++ map (λ j. inode_at page (inode_byte j)) xs) (used_before-none page)
          ∙ append-nil c.args.self.now.inodes);
      few = omega (arith, length-set pages n true, c.self.invariant.1);
      room = omega (arith, length-set pages n true, c.self.invariant.0, fewer);
    }

pub loop-k-preserved : goal.loop-k-preserved
loop-k-preserved c = elim c.if-is_used.branch [
  | then-is_used+in_ok-push w ↦
      let page = c.args.page.now in
      let n = c.args.n in
      let k = c.loop-k.k in
      let so_far = c.loop-k.invariant in
      let segments = c.loop-k.self-inside.segments.items in
      let more = used_one page k (sym c.is_used.ensures ∙ w.if-is_used.true) in
      let place : w.inode_place-at.result ≡ inode_byte k = w.inode_place-at.ensures in
      let s : Segment = record { place = node_address w.inode_place-at.result n; inode = w.read_inode-inode.result } in
      let items : c.if-is_used.self-inside.segments.items ≡ segments ++ s ∷ [] =
      rw w.self-inside-is w.in_ok-push.ensures.items in
      let pages : c.if-is_used.self-inside.pages.items ≡ c.loop-k.self-inside.pages.items = rw w.self-inside-is refl in
      record {
        pages = pages ∙ so_far.pages;
        places = ap (map (λ (x : Segment). x.place)) items
            ∙ kept_more (λ (x : Segment). x.place) (λ j. node_address (inode_byte j) n) segments c.args.self.now.places
            (used_before page k) s k so_far.places (ap (λ o. node_address o n) place)
            ∙ sym (ap (λ xs. c.args.self.now.places ++ map (λ j. node_address (inode_byte j) n) xs) more);
        inodes = ap (map (λ (x : Segment). x.inode)) items
            ∙ kept_more (λ (x : Segment). x.inode) (λ j. inode_at page (inode_byte j)) segments c.args.self.now.inodes
            (used_before page k) s k so_far.inodes (w.read_inode-inode.ensures ∙ ap (inode_at page) place)
            ∙ sym (ap (λ xs. c.args.self.now.inodes ++ map (λ j. inode_at page (inode_byte j)) xs) more);
        few = omega (arith, so_far.few, ap length pages);
        room = omega (
          arith,
          so_far.room,
          ap length pages,
          ap unmarked pages,
          ap length items,
          length-append
              segments (s ∷ []),
        );
      }
  | else-is_used w ↦
      let so_far = c.loop-k.invariant in
      let more = unused_one c.args.page.now c.loop-k.k (sym c.is_used.ensures ∙ w.if-is_used.false) in
      rw (w.self-inside-is, more) record {
        pages = so_far.pages;
        places = so_far.places;
        inodes =
            so_far.inodes;
        few = so_far.few;
        room = omega (arith, so_far.room);
      }
]

pub returns-clause-places : goal.returns-clause-places
returns-clause-places c =
    let all : c.loop-k.k ≡ 85 = omega arith in
    c.loop-k.invariant.places
    ∙ ap (λ k. c.args.self.now.places ++ map (λ j. node_address (inode_byte j) c.args.n)
    (used_before c.args.page.now k)) all
    ∙ ap (λ xs. c.args.self.now.places ++ map (λ j. node_address (inode_byte j) c.args.n) xs)
    (used_before-all c.args.page.now)

pub returns-clause-inodes : goal.returns-clause-inodes
returns-clause-inodes c =
    let all : c.loop-k.k ≡ 85 = omega arith in
    c.loop-k.invariant.inodes
    ∙ ap (λ k. c.args.self.now.inodes ++ map (λ j. inode_at c.args.page.now (inode_byte j))
    (used_before c.args.page.now k)) all
    ∙ ap (λ xs. c.args.self.now.inodes ++ map (λ j. inode_at c.args.page.now (inode_byte j)) xs)
    (used_before-all c.args.page.now)
