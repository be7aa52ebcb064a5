-- The parts of a script: what stands in one is a section (own).
use Rattle.rv_text.specs.Sections.{SectionText}
use Rattle.rv_fault.specs.declared.part.Part.{Part}

-- the section that a part is
abbrev pub section_of : Part → SectionText
section_of part = record { line = part.line; opening = part.heading.now; text = part.text.now }
