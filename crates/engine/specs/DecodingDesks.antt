-- The desk at which a renderer posts and runs jobs.
use Rattle.resource_mgr.specs.Desks.{IsDeskOf}
use Rattle.engine.specs.declared.decoding_desk.DecodingDesk.{DecodingDesk}

-- it is one of the library of its jobs
abbrev pub IsOwnDesk : {R G : Type 0} → DecodingDesk R G → Type 0
IsOwnDesk d = IsDeskOf d.library.now d.own.now.desk
