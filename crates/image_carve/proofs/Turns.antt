-- What is kept of an image after some turns, each of which passes a sector at least.
use Rattle.std.proofs.Common.{◌≡◌, ◌≢◌, ◌<◌, ◌≤◌, ◌+◌, ◌-◌, ◌*◌, ◌%◌, ◌^◌, ℕ, List, [], length, drop, slice_index_or}
use Rattle.std.proofs.Common.{Option, Some, None, option_map, Result, Ok, Err, IsErrAnd, MatchOption, ok_or, refl, sym}
use Rattle.std.proofs.Common.{ap, ◌∙◌}
use Rattle.std.proofs.Common.{subst, inl, inr, arith, length-drop}
use Rattle.std.proofs.lemmas.List.{drop-drop}
use Rattle.std.specs.FinMap.{get, insert, empty, get-empty}
use Rattle.std.specs.Ordering.{nat_cmp}
use Rattle.page_source.specs.declared.errors.Failed.{Failed}
use Rattle.page_source.specs.Objects.{PageMap, IsTold, HoldsPage, HoldsOthers}
use Rattle.page_scan.specs.Found.{lsn_of}
use Rattle.page_scan.specs.Newest.{Newest}
use Rattle.page_scan.specs.Scan.{IsNext, ScansTold, rest_of}
use Rattle.page_scan.specs.declared.scanner.FoundPage.{FoundPage}
use Rattle.page_scan.proofs.Places.{page_at_rest}
use Rattle.page_scan.proofs.Below.{NewestBelow, newest_at_start}
use Rattle.page_scan.proofs.Rest.{found_in_image, found_in_rest, only_next}
use Rattle.image_carve.specs.declared.taken.Taken.{Taken}
use Rattle.image_carve.specs.declared.taken.TakeStop.{TakeStop}
use Rattle.image_carve.specs.declared.taken.TakeStop.TheVariants.{Nothing, Source, Store, Memory}
use Rattle.image_carve.specs.Carved.{AreLsnsOf, AreNumbersOf, known}
use Rattle.image_carve.specs.Takes.{IsFresh, HasPart, HoldsBut, Takes, TakesTold}
use Rattle.image_carve.specs.Carving.{Kept, PutsNewer, Carves, CarvesTold}
use Rattle.image_carve.proofs.Maps.{Step, CarvedBelow, carved_other, carved_newer, carved_older, carved_all}
use Rattle.image_carve.proofs.Maps.{carved_part, newer_in_map, older_in_map, lsns_put}
use Rattle.image_carve.proofs.Noted.{none_known}

-- the image was looked at up to a sector, and what is found below it is kept
pub record Turn (image : List ℕ) (space : ℕ) (start : Option PageMap) (kept : Kept) (rest : Option (List ℕ)) (turns : ℕ)
    : Type 0 where
  pub o : ℕ
  pub sector : o % 512 ≡ 0
  pub within : o ≤ length image
  pub least : 512 * turns ≤ o
  pub is_rest : rest ≡ Some (drop o image)
  pub map : PageMap
  pub carved : CarvedBelow image o space map
  pub lsns_of : AreLsnsOf map kept.lsns
  pub holds : IsTold start kept.held map

abbrev pub TurnTold : Option (List ℕ) → ℕ → Option PageMap → Kept → Option (List ℕ) → ℕ → Type 0
TurnTold None space start kept rest turns = Unit {0}
TurnTold (Some image) space start kept rest turns =
    length image < 2 ^ 64 → IsFresh start → Turn image space start kept rest turns

-- the page that was found next
record Stepped (image : List ℕ) (o next : ℕ) (found : FoundPage) (page : List ℕ) (rest : Option (List ℕ))
    : Type 0 where
  pub sector : next % 512 ≡ 0
  pub within : next ≤ length image
  pub more : o + 512 ≤ next
  pub is_rest : rest ≡ Some (drop next image)
  pub step : Step image o next found page

step_next : (image : List ℕ) (o : ℕ) (found : FoundPage) (page now : List ℕ) (rest : Option (List ℕ)) → o % 512 ≡ 0
    → o ≤ length image → IsNext (drop o image) found page now → rest ≡ Some now
    → (next : ℕ) × Stepped image o next found page rest
step_next image o found page now rest sector within is told =
    let whole = is.is_found.place.whole in (
      o + (is.o + 512),
      record {
        sector = omega (arith, sector, is.is_found.place.sector);
        within = omega (arith, length-drop o image);
        more = omega arith;
        is_rest = told ∙ ap Some (is.after ∙ drop-drop (is.o + 512) o image);
        step = record {
          place = o + is.o;
          from = omega arith;
          after = omega arith;
          is_found = found_in_image image o is.o found.space found.number sector is.is_found;
          bytes = is.bytes ∙ page_at_rest image o is.o;
          only = only_next image o found page now sector is;
        };
      },
    )

-- the next page that a scan found, from a rest that is told
stepped : (image : List ℕ) (o : ℕ) (found : FoundPage) (page : List ℕ) (rest rest_now : Option (List ℕ)) → o % 512 ≡ 0
    → o ≤ length image → length image < 2 ^ 64 → rest ≡ Some (drop o image)
    → ScansTold {E = Failed} rest (Ok (Some found)) page rest_now
    → (next : ℕ) × Stepped image o next found page rest_now
stepped image o found page rest rest_now sector within fits is_rest scans =
    let told =
    subst (λ (r : Option (List ℕ)). ScansTold {E = Failed} r (Ok (Some found)) page rest_now) is_rest scans in
    let is = told (omega (arith, length-drop o image)) in
    step_next image o found page is.0 rest_now sector within is.2 is.1

-- what a scan says of the page that it found
pub scans_some : (rest rest_now : Option (List ℕ)) (next : Option FoundPage) (found : FoundPage) (page : List ℕ)
    → next ≡ Some found → ScansTold {E = Failed} rest (Ok next) page rest_now
    → ScansTold {E = Failed} rest (Ok (Some found)) page rest_now
scans_some rest rest_now next found page is scans =
    subst (λ (o : Option FoundPage). ScansTold {E = Failed} rest (Ok o) page rest_now) is scans

pub scans_none : (rest rest_now : Option (List ℕ)) (next : Option FoundPage) (page : List ℕ) → next ≡ None
    → ScansTold {E = Failed} rest (Ok next) page rest_now → ScansTold {E = Failed} rest (Ok None) page rest_now
scans_none rest rest_now next page is scans =
    subst (λ (o : Option FoundPage). ScansTold {E = Failed} rest (Ok o) page rest_now) is scans

-- before the first sector
start_held : (start : Option PageMap) → IsFresh start → IsTold start start empty
start_held None fresh = refl
start_held (Some held) fresh = ap Some fresh

pub turn_none : (left : Option (List ℕ)) (space : ℕ) (start : Option PageMap) (lsns : List (Option ℕ)) (ahead : List ℕ)
    → lsns ≡ [] → ahead ≡ []
    → TurnTold left space start (record { lsns = lsns; held = start }) (rest_of ahead left) 0
turn_none None space start lsns ahead none nothing = tt
turn_none (Some image) space start lsns ahead none nothing = λ fits fresh. record {
  o = 0;
  sector = omega arith;
  within = omega arith;
  least = omega arith;
  is_rest = ap (λ (bytes : List ℕ). rest_of bytes (Some image)) nothing;
  map = empty;
  carved = λ n. subst (NewestBelow image 0 space n) (sym (get-empty nat_cmp n)) (newest_at_start image space n);
  lsns_of = record {
    each = λ n. ap (λ (ls : List (Option ℕ)). slice_index_or ls n None) none
        ∙ sym (ap (option_map lsn_of) (get-empty nat_cmp n));
    last = λ n size. absurd (omega (arith, size, ap length none));
  };
  holds = start_held start fresh;
}

-- a page of another space
pub turn_other : (left : Option (List ℕ)) (space : ℕ) (start : Option PageMap) (kept : Kept) (turns : ℕ)
    (rest rest_now : Option (List ℕ)) (found : FoundPage) (page : List ℕ) → TurnTold left space start kept rest turns
    → ScansTold {E = Failed} rest (Ok (Some found)) page rest_now → found.space ≢ space
    → TurnTold left space start kept rest_now (turns + 1)
turn_other None space start kept turns rest rest_now found page turn scans other = tt
turn_other (Some image) space start kept turns rest rest_now found page turn scans other = λ fits fresh.
    let t = turn fits fresh in
    let s = stepped image t.o found page rest rest_now t.sector t.within fits t.is_rest scans in
    record {
      o = s.0;
      sector = s.1.sector;
      within = s.1.within;
      least = omega (arith, t.least, s.1.more);
      is_rest = s.1.is_rest;
      map = t.map;
      carved = carved_other image page t.o s.0 space found t.map t.carved s.1.step other;
      lsns_of = t.lsns_of;
      holds = t.holds;
    }

told_put : (start before now : Option PageMap) (map : PageMap) (n : ℕ) (page : List ℕ) → IsTold start before map
    → HoldsPage before now n page → IsTold start now (insert map n page)
told_put None before now map n page told holds = subst (λ (o : Option PageMap). HoldsPage o now n page) told holds
told_put (Some start) before now map n page told holds =
    subst (λ (o : Option PageMap). HoldsPage o now n page) told holds

told_but : (start before now : Option PageMap) (map : PageMap) (n : ℕ) → IsTold start before map
    → HoldsOthers before now n → HoldsBut start now map n
told_but None before now map n told holds = subst (λ (o : Option PageMap). HoldsOthers o now n) told holds
told_but (Some start) before now map n told holds = subst (λ (o : Option PageMap). HoldsOthers o now n) told holds

-- a page of the space, in its own words
turn_kept : (image page : List ℕ) (o next : ℕ) (found : FoundPage) (start : Option PageMap) (old new : Kept)
    (map : PageMap) → CarvedBelow image o found.space map → AreLsnsOf map old.lsns → IsTold start old.held map
    → Step image o next found page → PutsNewer old new found.number page (Ok tt)
    → (now : PageMap) × CarvedBelow image next found.space now × AreLsnsOf now new.lsns × IsTold start new.held now
turn_kept image page o next found start old new map carved are told step (inl keeps) = (
  map,
  carved_older image page o next found map carved step
      (older_in_map map old.lsns found.number (lsn_of page) are keeps.older),
  subst (λ (k : Kept). AreLsnsOf map k.lsns) (sym keeps.same) are,
  subst (λ (k : Kept). IsTold start k.held map) (sym keeps.same) told,
)
turn_kept image page o next found start old new map carved are told step (inr puts) = (
  insert map found.number page,
  carved_newer image page o next found map carved step
      (newer_in_map map old.lsns found.number (lsn_of page) are puts.newer),
  lsns_put map old.lsns new.lsns found.number page are puts.notes,
  told_put start old.held new.held map found.number page told puts.holds,
)

pub turn_put : (left : Option (List ℕ)) (space : ℕ) (start : Option PageMap) (old new : Kept) (turns : ℕ)
    (rest rest_now : Option (List ℕ)) (found : FoundPage) (page : List ℕ) → TurnTold left space start old rest turns
    → ScansTold {E = Failed} rest (Ok (Some found)) page rest_now → found.space ≡ space
    → PutsNewer old new found.number page (Ok tt) → TurnTold left space start new rest_now (turns + 1)
turn_put None space start old new turns rest rest_now found page turn scans same puts = tt
turn_put (Some image) space start old new turns rest rest_now found page turn scans same puts = λ fits fresh.
    let t = turn fits fresh in
    let s = stepped image t.o found page rest rest_now t.sector t.within fits t.is_rest scans in
    let k = turn_kept image page t.o s.0 found start old new t.map
    (subst (λ (id : ℕ). CarvedBelow image t.o id t.map) (sym same) t.carved) t.lsns_of t.holds s.1.step puts in
    record {
      o = s.0;
      sector = s.1.sector;
      within = s.1.within;
      least = omega (arith, t.least, s.1.more);
      is_rest = s.1.is_rest;
      map = k.0;
      carved = subst (λ (id : ℕ). CarvedBelow image s.0 id k.0) same k.1;
      lsns_of = k.2;
      holds = k.3;
    }

-- a read or an allocation failed
part_of : (image : List ℕ) (space : ℕ) (start now : Option PageMap) (kept : Kept) (rest : Option (List ℕ)) (turns : ℕ)
    → Turn image space start kept rest turns → now ≡ kept.held → HasPart image space start now
part_of image space start now kept rest turns t same = record {
  upto = t.o + 15872;
  held = t.map;
  carved = carved_part image t.o space t.map t.sector t.carved;
  holds = subst (λ (held : Option PageMap). IsTold start held t.map) (sym same) t.holds;
}

pub stop_source : (left : Option (List ℕ)) (space : ℕ) (start : Option PageMap) (kept : Kept) (rest : Option (List ℕ))
    (turns : ℕ) → TurnTold left space start kept rest turns → CarvesTold left space start kept (Err Source)
stop_source None space start kept rest turns turn = tt
stop_source (Some image) space start kept rest turns turn = λ fits fresh.
    part_of image space start kept.held kept rest turns (turn fits fresh) refl

pub stop_memory : (left : Option (List ℕ)) (space : ℕ) (start : Option PageMap) (kept : Kept) (rest : Option (List ℕ))
    (turns : ℕ) (result : Result (Unit {0}) TakeStop) → TurnTold left space start kept rest turns
    → IsErrAnd result (λ stop. stop ≡ Memory) → CarvesTold left space start kept result
stop_memory left space start kept rest turns (Ok u) turn is = absurd is
stop_memory None space start kept rest turns (Err stop) turn is = tt
stop_memory (Some image) space start kept rest turns (Err stop) turn is = λ fits fresh.
    subst (λ (s : TakeStop). Carves image space start kept (Err s)) (sym is)
    (part_of image space start kept.held kept rest turns (turn fits fresh) refl)

-- a put stopped
stop_put : (image : List ℕ) (space : ℕ) (start : Option PageMap) (old new : Kept) (rest : Option (List ℕ)) (turns n : ℕ)
    (page : List ℕ) (stop : TakeStop) → Turn image space start old rest turns → PutsNewer old new n page (Err stop)
    → Carves image space start new (Err stop)
stop_put image space start old new rest turns n page Nothing t puts = puts
stop_put image space start old new rest turns n page Source t puts = absurd puts
stop_put image space start old new rest turns n page Memory t puts =
    part_of image space start new.held old rest turns t puts
stop_put image space start old new rest turns n page Store t puts = record {
  upto = t.o + 15872;
  held = t.map;
  carved = carved_part image t.o space t.map t.sector t.carved;
  but = n;
  holds = told_but start old.held new.held t.map n t.holds puts;
}

pub stop_by_put : (left : Option (List ℕ)) (space : ℕ) (start : Option PageMap) (old new : Kept)
    (rest : Option (List ℕ)) (turns n : ℕ) (page : List ℕ) (stop : TakeStop) (result : Result (Unit {0}) TakeStop)
    → TurnTold left space start old rest turns → PutsNewer old new n page (Err stop)
    → IsErrAnd result (λ s. s ≡ stop) → CarvesTold left space start new result
stop_by_put left space start old new rest turns n page stop (Ok u) turn puts is = absurd is
stop_by_put None space start old new rest turns n page stop (Err s) turn puts is = tt
stop_by_put (Some image) space start old new rest turns n page stop (Err s) turn puts is = λ fits fresh.
    subst (λ (e : TakeStop). Carves image space start new (Err e)) (sym is)
    (stop_put image space start old new rest turns n page stop (turn fits fresh) puts)

-- nothing more is found
pub turn_done : (left : Option (List ℕ)) (space : ℕ) (start : Option PageMap) (kept : Kept)
    (rest rest_now : Option (List ℕ)) (turns : ℕ) (page : List ℕ) → TurnTold left space start kept rest turns
    → ScansTold {E = Failed} rest (Ok None) page rest_now → CarvesTold left space start kept (Ok tt)
turn_done None space start kept rest rest_now turns page turn scans = tt
turn_done (Some image) space start kept rest rest_now turns page turn scans = λ fits fresh.
    let t = turn fits fresh in
    let told = subst (λ (r : Option (List ℕ)). ScansTold {E = Failed} r (Ok None) page rest_now) t.is_rest scans in
    let is = told (omega (arith, length-drop t.o image)) in
    record {
      map = t.map;
      carved = carved_all image t.o space t.map t.carved
          (λ p n from found. is.2 (p - t.o) space n (found_in_rest image t.o p space n t.sector from found));
      lsns_of = t.lsns_of;
      holds = t.holds;
    }

-- no image has so many sectors
pub turn_never : (left : Option (List ℕ)) (space : ℕ) (start : Option PageMap) (kept : Kept) (rest : Option (List ℕ))
    (turns : ℕ) → TurnTold left space start kept rest turns → turns ≡ 18446744073709551615
    → CarvesTold left space start kept (Ok tt)
turn_never None space start kept rest turns turn many = tt
turn_never (Some image) space start kept rest turns turn many = λ fits fresh.
    let t = turn fits fresh in absurd (omega (arith, t.least, t.within))

-- a take stops as its carving does
stops : (image : List ℕ) (space : ℕ) (start : Option PageMap) (kept : Kept) (stop : TakeStop)
    → Carves image space start kept (Err stop) → Takes image space start kept.held (Err stop)
stops image space start kept Nothing carves = absurd carves
stops image space start kept Source carves = carves
stops image space start kept Store carves = carves
stops image space start kept Memory carves = carves

pub takes_stop : (left : Option (List ℕ)) (space : ℕ) (start : Option PageMap) (kept : Kept) (stop : TakeStop)
    (result : Result Taken TakeStop) → CarvesTold left space start kept (Err stop)
    → IsErrAnd result (λ s. s ≡ stop) → TakesTold left space start kept.held result
takes_stop left space start kept stop (Ok taken) carves is = absurd is
takes_stop None space start kept stop (Err s) carves is = tt
takes_stop (Some image) space start kept stop (Err s) carves is = λ fits fresh.
    subst (λ (e : TakeStop). Takes image space start kept.held (Err e)) (sym is)
    (stops image space start kept stop (carves fits fresh))

-- no LSN is known, so no page is held, and none is found
none_held : (held : Option (List ℕ)) → option_map lsn_of held ≡ None → held ≡ None
none_held None none = refl
none_held (Some page) none = cc

takes_nothing : (left : Option (List ℕ)) (space : ℕ) (start : Option PageMap) (kept : Kept)
    → CarvesTold left space start kept (Ok tt) → known kept.lsns ≡ []
    → TakesTold left space start kept.held (Err Nothing)
takes_nothing None space start kept carves none = tt
takes_nothing (Some image) space start kept carves none = λ fits fresh n.
    let k = carves fits fresh in
    subst (Newest image space n) (none_held (get k.map n) (sym (k.lsns_of.each n) ∙ none_known kept.lsns n none))
    (k.carved n)

takes_some : (left : Option (List ℕ)) (space : ℕ) (start : Option PageMap) (kept : Kept) (taken : Taken)
    → CarvesTold left space start kept (Ok tt) → AreNumbersOf kept.lsns taken
    → TakesTold left space start kept.held (Ok taken)
takes_some None space start kept taken carves numbers = tt
takes_some (Some image) space start kept taken carves numbers = λ fits fresh.
    let k = carves fits fresh in
    record {
      held = k.map;
      carved = k.carved;
      numbers = record { lsns = kept.lsns; are = k.lsns_of; numbers = numbers };
      holds = k.holds;
    }

pub takes_end : (left : Option (List ℕ)) (space : ℕ) (start : Option PageMap) (kept : Kept) (taken : Option Taken)
    → CarvesTold left space start kept (Ok tt) → MatchOption taken (known kept.lsns ≡ []) (AreNumbersOf kept.lsns)
    → TakesTold left space start kept.held (ok_or taken Nothing)
takes_end left space start kept None carves none = takes_nothing left space start kept carves none
takes_end left space start kept (Some taken) carves numbers = takes_some left space start kept taken carves numbers
